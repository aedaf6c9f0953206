use Rattle.std.proofs.Common.{◌≡◌, ◌+◌, ℕ, Bool, List, length, map}
use Rattle.bit_words.specs.Logic.{OwnsAll}
use Rattle.sym_cost.specs.Notations.{Counts, counter}
use Rattle.sym_cost.proofs.counters.raised_counter.Given as goal

abbrev pub invariant-loop-i : goal.invariant-loop-i
invariant-loop-i g l =
    let logic = g.L.Logic in
    record {
      owned : OwnsAll logic.owns l.g l.raised;
      width : length l.raised ≡ l.i;
      value : (vs : List Bool) (n : ℕ) → Counts l.bound (map (logic.reads l.g vs) l.counter) n
          → map (logic.reads l.g vs) l.raised ≡ counter l.i (l.number + n);
    }
