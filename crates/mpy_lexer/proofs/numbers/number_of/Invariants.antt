use Rattle.std.proofs.Common.{◌≡◌, ◌≤◌, ◌+◌, ◌*◌, ◌-◌, drop}
use Rattle.std.specs.List.{fold}
use Rattle.mpy_lexer.specs.Pieces.{number_value}
use Rattle.mpy_lexer.proofs.numbers.number_of.Given as goal

abbrev pub invariant-loop-digit : goal.invariant-loop-digit
invariant-loop-digit l = record {
  so_far : fold (λ n c. n * 10 + (c - 48)) l.value (drop l.digit-index l.digits) ≡ number_value l.digits;
  small : l.value ≤ 2147483647;
}
