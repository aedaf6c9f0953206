use Rattle.std.proofs.Common.{◌≡◌, ◌∙◌, ap, subst, []}
use Rattle.bit_graph.specs.Gates.{Gates, Owns, source_reads, gate_reads, values_after, source_of}
use Rattle.bit_graph.specs.Values.{made_reads}
use Rattle.bit_graph.proofs.Growth.{owns_parts}
use Rattle.bit_graph.proofs.graph.Graph.parts.Goals as goal

pub returns-in-Made-clause-value : goal.returns-in-Made-clause-value
returns-in-Made-clause-value c vs =
    subst (λ (m : Gates). source_reads vs (values_after vs [] m.gates) (source_of c.args.a) ≡ gate_reads vs (values_after vs [] m.gates) c.index.result.now) c.self.view_is
    (ap (source_reads vs (values_after vs [] c.self.inside.gates.keys)) c.in-Made.is ∙ made_reads c.self.inside.variables vs c.self.inside.gates.keys c.in-Made.k c.index.result.now c.self.invariant.gates c.index.ensures)

pub returns-in-Made-clause-owned_left : goal.returns-in-Made-clause-owned_left
returns-in-Made-clause-owned_left c =
    subst (λ (m : Gates). Owns m c.index.result.now.left) c.self.view_is (owns_parts c.self.inside.variables c.self.inside.gates.keys c.in-Made.k c.index.result.now c.self.invariant.gates c.index.ensures).0

pub returns-in-Made-clause-owned_right : goal.returns-in-Made-clause-owned_right
returns-in-Made-clause-owned_right c =
    subst (λ (m : Gates). Owns m c.index.result.now.right) c.self.view_is (owns_parts c.self.inside.variables c.self.inside.gates.keys c.in-Made.k c.index.result.now c.self.invariant.gates c.index.ensures).1
