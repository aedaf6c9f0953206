use Rattle.std.proofs.Common.{ap, ◌∙◌}
use Rattle.std.specs.Result.{result_ok}
use Rattle.input_space.proofs.Numerals.{number_read, number_utf8}
use Rattle.input_space.proofs.numbers.parsed.Goals as goal

pub returns-in-Ok : goal.returns-in-Ok
returns-in-Ok c = λ z h. c.ok.ensures.value ∙ ap result_ok (number_read c.args.text.now _ z _ h c.in-Ok.ensures.cases.0 c.from_str_radix.ensures.value)

pub returns-in-Err : goal.returns-in-Err
returns-in-Err c = λ z h. absurd (c.in-Err.ensures.cases.0 (number_utf8 c.args.text.now z h))
