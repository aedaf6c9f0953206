use Rattle.std.proofs.Common.{ap, ◌∙◌}
use Rattle.sym_values.specs.Forms.{form_for}
use Rattle.sym_nodes.proofs.TypeRules.{some_type}
use Rattle.sym_expr.specs.Bodiless.{bodiless_signatures}
use Rattle.sym_expr.specs.Signatures.{value_types}
use Rattle.sym_expr.proofs.Faults.{bodiless_given, fault_read, is_called}
use Rattle.sym_expr.proofs.bodiless.BodilessFunctions.call.Goals as goal

pub returns-clause-made : goal.returns-clause-made
returns-clause-made g c t e =
    let made = c.in_ok-value.ensures.made in
    let gives = bodiless_given c.args.self.now c.args.f.now (value_types c.args.args) t e in
    record { owned = made.owned; owned_fault = c.constant-fault.ensures.owned; form = made.form ∙ ap (form_for c.args.view.now.limits.now) gives }

pub returns-clause-value : goal.returns-clause-value
returns-clause-value g c vs m calls values line a p h =
    let typed = some_type _ c.requires.typed in
    let called = is_called (bodiless_signatures c.args.self.now) c.args.f.now (value_types c.args.args) typed.0 typed.1 in
    fault_read (g.L.Logic.reads c.args.g.now vs) (record { value = c.in_ok-value.value; fault = c.constant-fault.result }) (calls c.args.f.now values line) (c.constant-fault.ensures.value vs)
    (λ v is. a c.args.f.now values line v called is)
