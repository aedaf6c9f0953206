use Rattle.std.proofs.Common.{◌≡◌, ◌+◌, Bool, List, ◌++◌, map, length, replicate}
use Rattle.bit_words.specs.Logic.{OwnsAll}
use Rattle.sym_paths.proofs.entry.with_constants.Given as goal

abbrev pub invariant-loop : goal.invariant-loop
invariant-loop g l = record {
  owned : OwnsAll g.L.Logic.owns l.g l.all;
  width : length l.all ≡ length l.fn.bits + l.counter;
  value : (vs : List Bool) → map (g.L.Logic.reads l.g vs) l.all
      ≡ map (g.L.Logic.reads l.g vs) l.fn.bits ++ replicate l.counter l.truth;
}
