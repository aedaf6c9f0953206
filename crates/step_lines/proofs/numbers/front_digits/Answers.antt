use Rattle.std.proofs.Common.{◌≡◌, ◌-◌, ◌*◌, ◌+◌, true, get_or, drop, sym, ap, ◌∙◌, arith}
use Rattle.std.specs.Char.{is_ascii_digit}
use Rattle.std.specs.List.{take_while}
use Rattle.std.specs.Str.Parse.{digits_value_after}
use Rattle.std.proofs.lemmas.List.Sums.{prefix_len-drop_yes}
use Rattle.step_lines.proofs.Numerals.{value_goes_on, value_grows}
use Rattle.step_lines.proofs.numbers.front_digits.Goals as goal

pub returns-then-value-from-clause-none : goal.returns-then-value-from-clause-none
returns-then-value-from-clause-none c =
    let text = c.args.text.now in
    let at = c.loop-i.i in
    let digit : is_ascii_digit (get_or text at 0) ≡ true = sym c.if-not-is_ascii_digit.ensures.value in
    let value : c.from.result ≡ get_or text at 0 - 48 = c.from.ensures in
    let read = value_goes_on text at c.loop-i.value c.loop-i-test.true digit in
    let grows = value_grows (c.loop-i.value * 10 + (get_or text at 0 - 48)) (take_while is_ascii_digit (drop (at + 1) text)) in
    omega (arith, c.loop-i.invariant.value, read, grows)

pub loop-i-preserved : goal.loop-i-preserved
loop-i-preserved c =
    let text = c.args.text.now in
    let at = c.loop-i.i in
    let digit : is_ascii_digit (get_or text at 0) ≡ true = sym c.if-not-is_ascii_digit.ensures.value in
    let value : c.from.result ≡ get_or text at 0 - 48 = c.from.ensures in
    let read = value_goes_on text at c.loop-i.value c.loop-i-test.true digit in
    record {
      value = ap (λ d. digits_value_after 10 (c.loop-i.value * 10 + d) (take_while is_ascii_digit (drop (at + 1) text))) value ∙ sym read ∙ c.loop-i.invariant.value;
      count = omega (arith, prefix_len-drop_yes is_ascii_digit text at 0 c.loop-i-test.true digit);
      low = omega arith;
    }
