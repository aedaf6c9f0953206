use Rattle.std.proofs.Common.{◌≡◌, ◌∙◌, ◌≢◌, ℕ, subst, get_or, [], false, true, refl, Some}
use Rattle.std.specs.Prelude.{slice_get}
use Rattle.bit_graph.specs.declared.gate.Source.TheVariants.{Made}
use Rattle.bit_graph.specs.Gates.{Gates, Owns, gate_reads, values_after}
use Rattle.bit_graph.specs.Rules.{IsMissing}
use Rattle.bit_graph.specs.Values.{made_reads}
use Rattle.bit_graph.proofs.ConjunctionLaws.{if_none}
use Rattle.bit_graph.proofs.Growth.{within}
use Rattle.bit_graph.proofs.graph.Graph.find.Goals as goal

pub returns-in_ok-made-in-New-clause-value : goal.returns-in_ok-made-in-New-clause-value
returns-in_ok-made-in-New-clause-value c vs =
    subst (λ (m : Gates). get_or (values_after vs [] m.gates) c.in_ok-made-in-New.made false ≡ gate_reads vs (values_after vs [] m.gates) c.in-New.gate) c.self.view_is
    (made_reads c.self.inside.variables vs c.self.inside.gates.keys c.in_ok-made-in-New.made c.in-New.gate c.self.invariant.gates c.in_ok-made-in-New.ensures.found)
    ∙ c.in-New.ensures.value vs

pub returns-in_ok-made-in-New-clause-owned : goal.returns-in_ok-made-in-New-clause-owned
returns-in_ok-made-in-New-clause-owned c =
    subst (λ (m : Gates). Owns m (record { source = Made c.in_ok-made-in-New.made; positive = true })) c.self.view_is (record { below = within _ _ _ c.in_ok-made-in-New.ensures.found })

pub returns-in_err-made-in-New-clause-missing : goal.returns-in_err-made-in-New-clause-missing
returns-in_err-made-in-New-clause-missing c =
    let absent = subst (λ (m : Gates). (k : ℕ) → slice_get m.gates k ≢ Some c.in-New.gate) c.self.view_is c.in_err-made-in-New.ensures.missing in
    if_none c.from_residual.result (IsMissing c.args.self.now c.args.a c.args.b)
    (record { gate = c.in-New.gate; needed = c.in-New.ensures.needed c.in-New.gate refl; absent = absent })
