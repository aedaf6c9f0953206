use Rattle.std.proofs.Common.{◌≡◌, ◌+◌, ◌≤◌, drop}
use Rattle.std.specs.Char.{is_ascii_digit}
use Rattle.std.specs.List.{prefix_len, take_while}
use Rattle.std.specs.Str.Parse.{digits_value, digits_value_after}
use Rattle.step_lines.specs.Limits.{greatest_number}
use Rattle.step_lines.proofs.numbers.front_digits.Given as goal

abbrev pub invariant-loop-i : goal.invariant-loop-i
invariant-loop-i l = record {
  value : digits_value_after 10 l.value (take_while is_ascii_digit (drop l.i l.text)) ≡ digits_value 10 (take_while is_ascii_digit l.text);
  count : l.i + prefix_len is_ascii_digit (drop l.i l.text) ≡ prefix_len is_ascii_digit l.text;
  low : l.value ≤ greatest_number;
}
