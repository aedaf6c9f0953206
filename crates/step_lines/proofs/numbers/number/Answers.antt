use Rattle.std.proofs.Common.{[]}
use Rattle.step_lines.proofs.Apart.{is_nil, is_not_nil}
use Rattle.step_lines.proofs.Numerals.{alone, none_behind, read_alone}
use Rattle.step_lines.proofs.numbers.number.Goals as goal

pub returns-in_default : goal.returns-in_default
returns-in_default c = λ x s. c.in_default.ensures x [] (alone c.args.text.now x s)

pub returns-then-not-is_empty : goal.returns-then-not-is_empty
returns-then-not-is_empty c = λ x s.
    (let f = c.in-Some.found in
    is_not_nil f.behind.now c.if-not-is_empty.ensures (none_behind c.args.text.now f.value x f.behind.now c.in-Some.ensures s))

pub returns : goal.returns
returns c =
    let f = c.in-Some.found in
    read_alone c.args.text.now f.value f.behind.now c.in-Some.ensures (is_nil f.behind.now c.if-not-is_empty.ensures)
