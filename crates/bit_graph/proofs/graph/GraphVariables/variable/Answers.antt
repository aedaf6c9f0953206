use Rattle.bit_graph.proofs.Growth.{gates_wider}
use Rattle.bit_graph.proofs.graph.GraphVariables.variable.Goals as goal

pub invariant_of-self : goal.invariant_of-self
invariant_of-self c = record {
  gates = gates_wider c.self.inside.variables c.self.inside.gates.keys c.self.invariant.gates;
  few = c.self.invariant.few;
}
