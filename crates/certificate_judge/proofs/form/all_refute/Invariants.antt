use Rattle.std.proofs.Common.{take}
use Rattle.std.specs.Prelude.{All}
use Rattle.clause_base.specs.Logs.{Refutes}
use Rattle.certificate_judge.proofs.form.all_refute.Given as goal

abbrev pub invariant-loop-x : goal.invariant-loop-x
invariant-loop-x l = All (λ x. Refutes x.log.steps) (take l.x-index l.xs)
