use Rattle.std.proofs.Common.{◌≡◌, Bool, List, map}
use Rattle.std.specs.Prelude.{pos, replicate}
use Rattle.bit_words.specs.Logic.{OwnsAll}
use Rattle.bit_words.specs.Words.{int_of}
use Rattle.sym_values.specs.Constants.{padded}
use Rattle.sym_values.specs.Forms.{joined, lengths}
use Rattle.sym_values.proofs.constant.number_items.Given as goal

abbrev pub invariant-loop-i : goal.invariant-loop-i
invariant-loop-i g l = record {
  owned : OwnsAll g.L.Logic.owns l.g (joined l.items);
  widths : lengths l.items ≡ replicate l.i l.limits.width;
  value : (vs : List Bool) → map int_of (map (map (g.L.Logic.reads l.g vs)) l.items) ≡ padded (pos 0) l.i l.numbers;
}
