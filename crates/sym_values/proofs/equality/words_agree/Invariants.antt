use Rattle.std.proofs.Common.{◌≡◌, Bool, List, map, take}
use Rattle.bit_words.specs.Logic.{Extends}
use Rattle.bit_words.specs.Words.{nat_read}
use Rattle.sym_values.specs.Agreement.{agree, same_digits}
use Rattle.sym_values.proofs.equality.words_agree.Given as goal

abbrev pub invariant-loop-i : goal.invariant-loop-i
invariant-loop-i g l =
    let reads = g.L.Logic.reads in
    record {
      extends : Extends g.L.Logic.owns reads g.L.Logic.count l.fn.g l.g;
      owned : g.L.Logic.owns l.g l.alike;
      value : (vs : List Bool) → reads l.g vs l.alike ≡ agree same_digits (nat_read reads l.fn.g vs l.len) (take l.i (map (map (reads l.fn.g vs)) l.xs)) (take l.i (map (map (reads l.fn.g vs)) l.ys));
    }
