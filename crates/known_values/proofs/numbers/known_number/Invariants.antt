use Rattle.std.proofs.Common.{◌≡◌, ◌<◌, ◌≤◌, ◌^◌, Bool, List, take}
use Rattle.bit_words.specs.Words.{nat_read}
use Rattle.known_values.proofs.numbers.known_number.Given as goal

abbrev pub invariant-loop-i : goal.invariant-loop-i
invariant-loop-i g l = record {
  weight : l.weight ≡ 2 ^ l.i;
  below : l.number < l.weight;
  most : l.weight ≤ 2 ^ 16;
  value : (vs : List Bool) → nat_read g.L.Logic.reads l.g vs (take l.i l.bits) ≡ l.number;
}
