use Rattle.std.proofs.Common.{◌≡◌, Bool, List, map, take, ltb}
use Rattle.bit_words.specs.Logic.{Extends}
use Rattle.bit_words.specs.Words.{nat_of}
use Rattle.bit_words.proofs.compare.less.Given as goal

-- whether the lowest digits are below
abbrev pub invariant-loop-i : goal.invariant-loop-i
invariant-loop-i g l =
    let reads = g.L.Logic.reads in
    record {
      extends : Extends g.L.Logic.owns reads g.L.Logic.count l.fn.g l.g;
      owned : g.L.Logic.owns l.g l.below;
      value : (vs : List Bool) → reads l.g vs l.below ≡ ltb (nat_of (map (reads l.fn.g vs) (take l.i l.a))) (nat_of (map (reads l.fn.g vs) (take l.i l.b)));
    }
