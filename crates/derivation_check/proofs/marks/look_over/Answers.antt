use Rattle.std.proofs.Common.{◌∙◌, ap, sym, not, get_or, false}
use Rattle.std.specs.Option.{option_to_list}
use Rattle.std.proofs.lemmas.List.{get_or_default}
use Rattle.clause_base.specs.Literals.{opposite}
use Rattle.derivation_check.specs.Marks.{mark_true}
use Rattle.derivation_check.proofs.Scans.{second_open}
use Rattle.derivation_check.proofs.marks.look_over.Goals as goal

pub returns-in-Some : goal.returns-in-Some
returns-in-Some c =
    let lits = c.args.lits.now in
    let i = c.loop-lit.lit-index in
    let lit = get_or lits i (record { var = 0; positive = false }) in
    second_open (λ l. not (mark_true c.args.marks.now c.args.stamp (opposite l))) lits i c.in-Some.field-0 lit c.loop-lit-test.true
    (c.loop-lit.invariant ∙ ap option_to_list c.in-Some.is)
    (get_or_default lits i lit (record { var = 0; positive = false }) c.loop-lit-test.true)
    (sym (ap not c.if-is_false.ensures))
