use Rattle.std.proofs.Common.{◌≡◌, ◌+◌, ◌*◌, map}
use Rattle.bit_words.specs.Words.{int_of}
use Rattle.input_space.specs.ValueBits.{words_from}
use Rattle.input_bits.proofs.decode.integers.Given as goal

abbrev pub invariant-loop : goal.invariant-loop
invariant-loop l = record {
  place : l.place ≡ l.fn.start + l.counter * l.fn.width;
  made : l.numbers.items ≡ map int_of (words_from l.fn.truths l.fn.start l.fn.width l.counter);
}
