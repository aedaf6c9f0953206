use Rattle.std.proofs.Common.{arith, rules}
use Rattle.std.proofs.lemmas.Bool.{false≢true}
use Rattle.step_lines.proofs.Numerals.{is_canonical, is_followed, number_read, their_value}
use Rattle.step_lines.proofs.numbers.front_number.Goals as goal

pub returns-in_default : goal.returns-in_default
returns-in_default c = λ n b s. omega (arith, c.in_default.ensures.none, their_value c.args.text.now n b s, s.kept)

pub returns-then-not-are_canonical : goal.returns-then-not-are_canonical
returns-then-not-are_canonical c = λ n b s.
    (let canonical = is_canonical c.args.text.now c.in-Some.digits.count c.in-Some.ensures.count c.split_at.result.0.now c.split_at.result.1.now c.split_at.ensures.front c.split_at.ensures.back n b s in
    false≢true (c.if-not-are_canonical.ensures.1 canonical))

pub returns-then-not-is_apart : goal.returns-then-not-is_apart
returns-then-not-is_apart c = λ n b s.
    (let followed = is_followed c.args.text.now c.in-Some.digits.count c.in-Some.ensures.count c.split_at.result.0.now c.split_at.result.1.now c.split_at.ensures.front c.split_at.ensures.back n b s in
    cc (c.if-not-is_apart.ensures, followed))

pub returns : goal.returns
returns c =
    number_read c.args.text.now c.in-Some.digits.count c.in-Some.ensures.count c.split_at.result.0.now c.split_at.result.1.now c.split_at.ensures.front c.split_at.ensures.back
    c.in-Some.digits.value c.in-Some.ensures.value c.in-Some.ensures.low (c.if-not-are_canonical.ensures.0 (search rules)) (search rules)
