use Rattle.std.proofs.Common.{◌≡◌, Bool, List, length, map, not, take}
use Rattle.bit_words.specs.Logic.{OwnsAll}
use Rattle.bit_words.proofs.bitwise.flip.Given as goal

abbrev pub invariant-loop-i : goal.invariant-loop-i
invariant-loop-i g l = record {
  owned : OwnsAll g.L.Logic.owns l.g l.flipped;
  width : length l.flipped ≡ l.i;
  value : (vs : List Bool) → map (g.L.Logic.reads l.g vs) l.flipped ≡ map not (map (g.L.Logic.reads l.g vs) (take l.i l.a));
}
