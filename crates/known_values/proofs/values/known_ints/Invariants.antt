use Rattle.std.proofs.Common.{◌≡◌, Bool, List, map, take}
use Rattle.bit_words.specs.Words.{int_read}
use Rattle.known_values.proofs.values.known_ints.Given as goal

abbrev pub invariant-loop-i : goal.invariant-loop-i
invariant-loop-i g l =
    (vs : List Bool) → map (int_read g.L.Logic.reads l.g vs) (take l.i l.items) ≡ l.numbers.items
