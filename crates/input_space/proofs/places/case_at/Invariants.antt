use Rattle.std.proofs.Common.{drop}
use Rattle.input_space.specs.Inputs.{inputs}
use Rattle.input_space.proofs.Blocks.{Leads}
use Rattle.input_space.proofs.places.case_at.Given as goal

abbrev pub invariant-loop-k : goal.invariant-loop-k
invariant-loop-k l = Leads 1000000000000 (inputs l.b.params) l.i l.values.items (inputs (drop l.k l.b.params)) l.rest
