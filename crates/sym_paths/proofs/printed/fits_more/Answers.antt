use Rattle.std.proofs.Common.{◌≡◌, ◌∙◌, ap, drop, length, ltb, map, not, sym}
use Rattle.std.proofs.lemmas.List.{length-map}
use Rattle.sym_values.specs.declared.value.SymValue.TheVariants as sym
use Rattle.sym_values.specs.Reading.{map_bits}
use Rattle.sym_paths.specs.Paths.{number_fits, words_kept}
use Rattle.sym_paths.proofs.Kept.{number_first, number_form, number_owned, room_left, words_long}
use Rattle.sym_paths.proofs.printed.fits_more.Goals as goal

pub word_of-number-requires : goal.word_of-number-requires
word_of-number-requires g c =
    let slots = c.args.slots.now in (
      5,
      number_form slots.limits slots.prints c.requires.some c.args.kept.now
          c.requires.kept.forms_are c.at.result.now c.at.ensures,
    )

pub equal_number-requires : goal.equal_number-requires
equal_number-requires g c =
    rw c.as_slice.ensures
    (number_owned c.args.kept.now c.at.result.now c.word_of-number.result.now
    c.requires.kept.owned c.at.ensures c.word_of-number.ensures)

pub returns-clause-value : goal.returns-clause-value
returns-clause-value g c vs fits =
    let rd = g.L.Logic.reads c.args.g.now vs in
    let slots = c.args.slots.now in
    let kept = c.args.kept.now in
    let number = c.word_of-number.result.now in
    let rest = map (map_bits rd) (drop 1 kept) in
    let first = number_first kept c.at.result.now number c.at.ensures c.word_of-number.ensures in
    let whole = ap (map (map_bits rd)) first in
    let long : length rest ≡ slots.prints =
    length-map (drop 1 kept) (map_bits rd)
    ∙ words_long slots.limits slots.prints c.requires.some kept c.requires.kept.forms_are in
    let full = rw c.as_slice.ensures at (c.in_ok-full.ensures.value vs) in
    c.not.ensures.value vs ∙ ap not full
    ∙ room_left (sym.Int (map rd number)) rest slots.prints long
    (ap number_fits (sym whole) ∙ fits)
    ∙ ap (λ ps. ltb (length (words_kept ps)) slots.prints) (sym whole)
