use Rattle.std.proofs.Common.{◌≡◌, ◌+◌, ◌≤◌, ℕ, Bool, List, map, min, leb}
use Rattle.bit_words.specs.Logic.{Extends}
use Rattle.sym_cost.specs.Notations.{Counts}
use Rattle.sym_cost.proofs.counters.sum_reaches.Given as goal

-- whether so much of the first number at most is enough
abbrev pub invariant-loop-i : goal.invariant-loop-i
invariant-loop-i g l =
    let logic = g.L.Logic in
    record {
      extends : Extends logic.owns logic.reads logic.count l.fn.g l.g;
      owned : logic.owns l.g l.reached;
      value : (vs : List Bool) (bound m n : ℕ) → l.number ≤ bound
          → Counts bound (map (logic.reads l.fn.g vs) l.a) m
          → Counts bound (map (logic.reads l.fn.g vs) l.b) n
          → logic.reads l.g vs l.reached ≡ leb l.number (n + min m l.i);
    }
