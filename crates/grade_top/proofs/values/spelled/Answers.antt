-- a word that spells no case, or another than of one value
use Rattle.std.proofs.Common.{Err, refl, ap, ◌∙◌, ◌∷◌, []}
use Rattle.grade_top.proofs.ReadingLaws.{not_one}
use Rattle.grade_top.proofs.values.spelled.Goals as goal

pub returns-in-None : goal.returns-in-None
returns-in-None c = rw c.refused-no_value.ensures (
  not_one c.args.word.now c.in-Ok.case.values (rw c.as_bytes.ensures.value at c.in-Ok.ensures.read) (rw c.into_vec.ensures at c.in-None.ensures),
  refl,
)

pub returns-in-Err-NoCase : goal.returns-in-Err-NoCase
returns-in-Err-NoCase c = rw c.refused-no_value.ensures (
  λ v spells. c.read_case.ensures.no_case (c.in-Err-NoCase.is ∙ ap Err c.in-Err-NoCase.field-0-is) (v ∷ []) (rw c.as_bytes.ensures.value spells),
  refl,
)
