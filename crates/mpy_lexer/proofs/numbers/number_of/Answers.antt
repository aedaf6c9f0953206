use Rattle.std.proofs.Common.{arith, ap, cond, Some, None}
use Rattle.mpy_lexer.specs.Pieces.{number_value}
use Rattle.mpy_lexer.proofs.DigitValues.{too_large}
use Rattle.mpy_lexer.proofs.numbers.number_of.Goals as goal

pub returns-then-value-gt-LARGEST : goal.returns-then-value-gt-LARGEST
returns-then-value-gt-LARGEST c = ap (λ b. cond b (Some (number_value c.args.digits.now)) None) (too_large c.loop-digit.value c.loop-digit.digit-index c.args.digits.now c.loop-digit-test.true c.loop-digit.invariant.so_far (omega arith))
