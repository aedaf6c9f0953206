use Rattle.std.proofs.Common.{◌≡◌, length, take}
use Rattle.bit_words.specs.Logic.{OwnsAll}
use Rattle.sym_values.specs.Forms.{joined, lengths}
use Rattle.input_bits.proofs.item_ranges.filled_up.Given as goal

abbrev pub invariant-loop-j : goal.invariant-loop-j
invariant-loop-j g l = record {
  owned : OwnsAll g.L.Logic.owns l.g (joined l.whole);
  widths : lengths l.whole ≡ take l.j (lengths l.items);
  first : take (length l.fn.words) l.whole ≡ l.fn.words;
}
