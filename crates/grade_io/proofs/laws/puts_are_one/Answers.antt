use Rattle.grade_io.proofs.OnePuts.{puts_are_one}
use Rattle.grade_io.proofs.laws.puts_are_one.Goals as goal

pub returns : goal.returns
returns c = record { holds = puts_are_one }
