use Rattle.std.proofs.Common.{◌≡◌, ◌∙◌, get_or, false, true, sym, Some, None, ap, inl}
use Rattle.std.proofs.lemmas.List.Folds.{list_any_at}
use Rattle.clause_base.specs.declared.lit.Lit.{Lit}
use Rattle.sat_plain.specs.Trails.{is_among, literals_of, standing}
use Rattle.sat_plain.proofs.Ordered.{set_true, unset_parts}
use Rattle.sat_plain.proofs.Watching.{second_open}
use Rattle.sat_plain.proofs.trail.Trail.look_over.Goals as goal

pub returns-in-Some-true : goal.returns-in-Some-true
returns-in-Some-true c =
    let known = literals_of c.args.self.now.entries in
    let none : Lit = record { var = 0; positive = false } in
    let lit = get_or c.args.lits.now c.loop-lit.lit-index none in
    let is : standing known lit ≡ Some true = sym c.standing.ensures.value ∙ c.in-Some-true.is ∙ ap Some c.in-Some-true.field-0-test in
    inl (list_any_at (λ l. is_among l known) c.args.lits.now c.loop-lit.lit-index none c.loop-lit-test.true (set_true known lit is))

pub returns-in-Some : goal.returns-in-Some
returns-in-Some c =
    let known = literals_of c.args.self.now.entries in
    let none : Lit = record { var = 0; positive = false } in
    let lit = get_or c.args.lits.now c.loop-lit.lit-index none in
    let is : standing known lit ≡ None = sym c.standing.ensures.value ∙ c.in-None.is in
    let one = rw c.in-Some.is at c.loop-lit.invariant.all in
    second_open known c.args.lits.now c.loop-lit.lit-index none _ c.loop-lit-test.true one (unset_parts known lit is).1
