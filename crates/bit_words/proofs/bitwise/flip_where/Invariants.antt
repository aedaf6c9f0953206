use Rattle.std.proofs.Common.{◌≡◌, Bool, List, length, map, take}
use Rattle.bit_words.specs.Bits.{differ}
use Rattle.bit_words.specs.Logic.{Extends, OwnsAll}
use Rattle.bit_words.proofs.bitwise.flip_where.Given as goal

abbrev pub invariant-loop-i : goal.invariant-loop-i
invariant-loop-i g l =
    let reads = g.L.Logic.reads in
    record {
      extends : Extends g.L.Logic.owns reads g.L.Logic.count l.fn.g l.g;
      owned : OwnsAll g.L.Logic.owns l.g l.flipped;
      width : length l.flipped ≡ l.i;
      value : (vs : List Bool) → map (reads l.g vs) l.flipped ≡ map (differ (reads l.fn.g vs l.test)) (map (reads l.fn.g vs) (take l.i l.a));
    }
