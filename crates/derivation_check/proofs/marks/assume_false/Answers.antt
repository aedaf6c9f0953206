use Rattle.std.proofs.Common.{get_or, ◌-◌, false}
use Rattle.std.proofs.lemmas.List.{take_more}
use Rattle.std.proofs.lemmas.Option.{slice_get-get_or}
use Rattle.clause_base.specs.declared.lit.Lit.{Lit}
use Rattle.derivation_check.proofs.Agreement.{agrees_more, before_set}
use Rattle.derivation_check.proofs.marks.assume_false.Goals as goal

pub loop-lit-preserved : goal.loop-lit-preserved
loop-lit-preserved c =
    let lits = c.args.lits.now in
    let i = c.loop-lit.lit-index in
    let none : Lit = record { var = 0; positive = false } in
    let here = slice_get-get_or lits i none c.loop-lit-test.true in
    let range = c.requires.covered i none c.loop-lit-test.true in
    rw (c.set_true.ensures, c.opposite.ensures) (record {
      agrees = agrees_more c.loop-lit.marks c.args.stamp lits i (get_or lits i none) c.requires.distinct here (take_more lits i none c.loop-lit-test.true) c.loop-lit.invariant.agrees range.0 (rw c.loop-lit.auto.marks range.1);
      upto = before_set c.loop-lit.marks c.args.stamp ((get_or lits i none).var - 1) _ c.loop-lit.invariant.upto;
    })
