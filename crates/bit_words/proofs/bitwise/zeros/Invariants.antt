use Rattle.std.proofs.Common.{◌≡◌, Bool, List, false, length, map}
use Rattle.std.specs.Prelude.{replicate}
use Rattle.bit_words.specs.Logic.{OwnsAll}
use Rattle.bit_words.proofs.bitwise.zeros.Given as goal

abbrev pub invariant-loop : goal.invariant-loop
invariant-loop g l = record {
  owned : OwnsAll g.L.Logic.owns l.g l.word;
  width : length l.word ≡ l.counter;
  value : (vs : List Bool) → map (g.L.Logic.reads l.g vs) l.word ≡ replicate l.counter false;
}
