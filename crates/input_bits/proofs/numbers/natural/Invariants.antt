use Rattle.std.proofs.Common.{◌≡◌, ◌<◌, ◌≤◌, ◌^◌}
use Rattle.bit_words.specs.Later.{values_from}
use Rattle.bit_words.specs.Words.{nat_of}
use Rattle.input_bits.proofs.numbers.natural.Given as goal

abbrev pub invariant-loop-i : goal.invariant-loop-i
invariant-loop-i l = record {
  weight : l.weight ≡ 2 ^ l.i;
  below : l.number < l.weight;
  most : l.weight ≤ 2 ^ 31;
  value : l.number ≡ nat_of (values_from l.fn.truths l.fn.start l.i);
}
