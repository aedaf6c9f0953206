use Rattle.std.proofs.Common.{take}
use Rattle.input_space.specs.TaskParts.{task_with}
use Rattle.certificate_judge.specs.Passing.{Pass}
use Rattle.certificate_judge.proofs.trial.try_sessions.Given as goal

-- the sessions so far pass
abbrev pub invariant-loop-i : goal.invariant-loop-i
invariant-loop-i l = Pass (task_with l.t) l.c.cases (take l.i l.sessions) l.anew
