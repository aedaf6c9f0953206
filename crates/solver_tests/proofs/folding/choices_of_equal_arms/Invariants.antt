use Rattle.bit_words.specs.Logic.{OwnsAll}
use Rattle.solver_tests.proofs.folding.choices_of_equal_arms.Given as goal

abbrev pub invariant-loop-i : goal.invariant-loop-i
invariant-loop-i g l = record {
  bits : OwnsAll g.L.Logic.owns l.g l.bits;
  kept : OwnsAll g.L.Logic.owns l.g l.kept;
}
