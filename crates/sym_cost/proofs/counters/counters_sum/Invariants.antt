use Rattle.std.proofs.Common.{◌≡◌, ◌+◌, ℕ, Bool, List, length, map}
use Rattle.bit_words.specs.Logic.{Extends, OwnsAll}
use Rattle.sym_cost.specs.Notations.{Counts, counter}
use Rattle.sym_cost.proofs.counters.counters_sum.Given as goal

abbrev pub invariant-loop-i : goal.invariant-loop-i
invariant-loop-i g l =
    let logic = g.L.Logic in
    record {
      extends : Extends logic.owns logic.reads logic.count l.fn.g l.g;
      owned : OwnsAll logic.owns l.g l.sum;
      width : length l.sum ≡ l.i;
      value : (vs : List Bool) (m n : ℕ) → Counts l.bound (map (logic.reads l.fn.g vs) l.a) m
          → Counts l.bound (map (logic.reads l.fn.g vs) l.b) n
          → map (logic.reads l.g vs) l.sum ≡ counter l.i (m + n);
    }
