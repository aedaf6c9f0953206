use Rattle.std.proofs.Common.{◌≡◌, Bool, List, map}
use Rattle.std.specs.Prelude.{replicate}
use Rattle.bit_words.specs.Logic.{OwnsAll}
use Rattle.bit_words.specs.Words.{nat_of}
use Rattle.sym_values.specs.Constants.{padded}
use Rattle.sym_values.specs.Forms.{joined, lengths}
use Rattle.sym_values.proofs.constant.character_items.Given as goal

abbrev pub invariant-loop-i : goal.invariant-loop-i
invariant-loop-i g l = record {
  owned : OwnsAll g.L.Logic.owns l.g (joined l.items);
  widths : lengths l.items ≡ replicate l.i 7;
  value : (vs : List Bool) → map nat_of (map (map (g.L.Logic.reads l.g vs)) l.items) ≡ padded 0 l.i l.characters;
}
