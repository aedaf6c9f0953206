use Rattle.std.proofs.Common.{◌≡◌, ◌+◌, ◌*◌, map}
use Rattle.bit_words.specs.Words.{nat_of}
use Rattle.mpy_tree.specs.Printable.{ArePrintable}
use Rattle.input_space.specs.ValueBits.{words_from}
use Rattle.input_bits.proofs.decode.characters.Given as goal

abbrev pub invariant-loop : goal.invariant-loop
invariant-loop l = record {
  place : l.place ≡ l.fn.start + l.counter * 7;
  made : l.text.items ≡ map nat_of (words_from l.fn.truths l.fn.start 7 l.counter);
  printable : ArePrintable l.text.items;
}
