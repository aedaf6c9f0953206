use Rattle.std.proofs.Common.{◌≡◌, Bool, List, length, map, take, cond}
use Rattle.bit_words.specs.Logic.{Extends, OwnsAll}
use Rattle.bit_words.proofs.bitwise.choose_bits.Given as goal

abbrev pub invariant-loop-i : goal.invariant-loop-i
invariant-loop-i g l =
    let reads = g.L.Logic.reads in
    record {
      extends : Extends g.L.Logic.owns reads g.L.Logic.count l.fn.g l.g;
      owned : OwnsAll g.L.Logic.owns l.g l.chosen;
      width : length l.chosen ≡ l.i;
      value : (vs : List Bool) → map (reads l.g vs) l.chosen ≡ cond (reads l.fn.g vs l.test) (map (reads l.fn.g vs) (take l.i l.yes)) (map (reads l.fn.g vs) (take l.i l.no));
    }
