use Rattle.std.proofs.Common.{take}
use Rattle.std.specs.List.{Contains}
use Rattle.std.specs.Prelude.{All}
use Rattle.input_space.specs.TaskParts.{task_with}
use Rattle.input_space.specs.TaskSpace.{wanted_inputs}
use Rattle.certificate_judge.proofs.form.first_wrong.Given as goal

-- the cases so far are inputs on which the reference gives a value
abbrev pub invariant-loop-i : goal.invariant-loop-i
invariant-loop-i l = All (Contains (wanted_inputs (task_with l.t))) (take l.i l.cases)
