use Rattle.std.proofs.Common.{◌∙◌, ap, refl}
use Rattle.dimacs_text.specs.declared.signed.Signed.{Signed}
use Rattle.dimacs_text.proofs.Tidying.{turn_both, turn_new, turn_same}
use Rattle.dimacs_text.proofs.tidy.without_repeats.Goals as goal
use Rattle.dimacs_text.proofs.tidy.without_repeats.Goals.{in-Some+else-sign-lit, in-None+in_ok-kept-in-None}

pub returns-then-sign-lit : goal.returns-then-sign-lit
returns-then-sign-lit c =
    turn_both c.args.lits.now c.loop-lit.kept.lits c.loop-lit.kept.lits c.loop-lit.lit-index c.loop-lit.invariant c.loop-lit-test.true refl c.in-Some.sign c.in-Some.ensures c.if-sign-lit.true

pub loop-lit-preserved : goal.loop-lit-preserved
loop-lit-preserved c = elim c.match-sign_of.branch [
  | in-Some+else-sign-lit w ↦ turn_same c.args.lits.now c.loop-lit.kept.lits c.loop-lit.kept.lits c.loop-lit.lit-index c.loop-lit.invariant c.loop-lit-test.true refl w.in-Some.sign c.match-sign_of.kept.lits w.in-Some.ensures w.if-sign-lit.false (ap (λ (s : Signed). s.lits) w.kept-is)
  | in-None+in_ok-kept-in-None w ↦ turn_new c.args.lits.now c.loop-lit.kept.lits c.loop-lit.kept.lits c.loop-lit.lit-index c.loop-lit.invariant c.loop-lit-test.true refl c.match-sign_of.kept.lits w.in-None.ensures (ap (λ (s : Signed). s.lits) w.kept-is ∙ w.in_ok-kept-in-None.ensures)
]
