use Rattle.std.proofs.Common.{◌≡◌, Bool, List, map, take}
use Rattle.bit_words.specs.Words.{nat_read}
use Rattle.mpy_tree.specs.Printable.{ArePrintable}
use Rattle.known_values.proofs.values.known_characters.Given as goal

abbrev pub invariant-loop-i : goal.invariant-loop-i
invariant-loop-i g l = record {
  value : (vs : List Bool)
      → map (nat_read g.L.Logic.reads l.g vs) (take l.i l.items) ≡ l.characters.items;
  printable : ArePrintable l.characters.items;
}
