use Rattle.std.proofs.Common.{◌≡◌, ◌≤◌, length}
use Rattle.bit_words.specs.Logic.{OwnsAll}
use Rattle.solver_tests.proofs.folding.word_of.Given as goal

abbrev pub invariant-loop : goal.invariant-loop
invariant-loop g l = record {
  owned : OwnsAll g.L.Logic.owns l.g l.word;
  width : length l.word ≡ l.counter;
  inside : l.place ≤ l.last;
}
