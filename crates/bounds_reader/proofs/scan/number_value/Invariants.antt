use Rattle.std.proofs.Common.{◌≡◌, ◌<◌, ◌^◌, drop}
use Rattle.mpy_lexer.specs.Pieces.{number_value}
use Rattle.bounds_reader.proofs.Digits.{value_from}
use Rattle.bounds_reader.proofs.scan.number_value.Given as goal

abbrev pub invariant-loop-digit : goal.invariant-loop-digit
invariant-loop-digit l = record {
  so_far : value_from l.value (drop l.digit-index l.digits) ≡ number_value l.digits;
  small : l.value < 10 ^ l.digit-index;
}
