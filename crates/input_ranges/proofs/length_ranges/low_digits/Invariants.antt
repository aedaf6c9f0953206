use Rattle.std.proofs.Common.{◌≡◌, ◌+◌, ◌*◌, ◌^◌, Bool, List, length}
use Rattle.bit_words.specs.Logic.{OwnsAll}
use Rattle.bit_words.specs.Words.{nat_read}
use Rattle.input_ranges.proofs.length_ranges.low_digits.Given as goal

abbrev pub invariant-loop : goal.invariant-loop
invariant-loop g l = record {
  owned : OwnsAll g.L.Logic.owns l.g l.bits;
  width : length l.bits ≡ l.counter;
  value : (vs : List Bool) → nat_read g.L.Logic.reads l.g vs l.bits + 2 ^ l.counter * l.rest ≡ l.number;
}
