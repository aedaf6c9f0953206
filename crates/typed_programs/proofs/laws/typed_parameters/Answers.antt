use Rattle.typed_programs.proofs.Programs.{bound_agrees}
use Rattle.typed_programs.proofs.laws.typed_parameters.Goals as goal

pub returns : goal.returns
returns c = λ l S g vs h. bound_agrees l S g.number g.routine.params vs h
