-- A number out of the range is no count, and a text spells one number.
use Rattle.std.proofs.Common.{◌≡◌, arith, sym, ◌∙◌}
use Rattle.std.proofs.lemmas.Fmt.{decimal_injective}
use Rattle.grade_top.proofs.words.read_most.Goals as goal

pub returns-else-n-ge1-clause-none : goal.returns-else-n-ge1-clause-none
returns-else-n-ge1-clause-none c = λ n few e.
    let same : c.in-Some.n ≡ n = decimal_injective c.in-Some.n n (omega arith) (omega (arith, few.most)) (sym c.in-Some.ensures.found ∙ e) in
    omega arith
