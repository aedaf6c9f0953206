use Rattle.std.proofs.Common.{◌≡◌, ◌+◌, ◌++◌, Bool, List, false, length, map, replicate}
use Rattle.bit_words.specs.Logic.{OwnsAll}
use Rattle.sym_cost.proofs.counters.padded.Given as goal

abbrev pub invariant-loop : goal.invariant-loop
invariant-loop g l =
    let logic = g.L.Logic in
    record {
      owned : OwnsAll logic.owns l.g l.whole;
      width : length l.whole ≡ length l.fn.word + l.counter;
      value : (vs : List Bool) → map (logic.reads l.g vs) l.whole
          ≡ map (logic.reads l.g vs) l.fn.word ++ replicate l.counter false;
    }
