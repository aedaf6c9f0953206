use Rattle.std.proofs.Common.{◌∙◌, ap, map}
use Rattle.sym_values.specs.Forms.{form_for}
use Rattle.test_bits.proofs.ByForms.{arguments_from}
use Rattle.test_bits.proofs.variables.variable_arguments.Goals as goal

pub returns-clause-made : goal.returns-clause-made
returns-clause-made g c =
    let limits = c.args.bounds.now.limits in
    let types = c.items.ensures ∙ c.in_ok-signature.ensures.params in
    let made = c.in_ok-values.ensures in
    rw c.into_vec.ensures
    (arguments_from made.owned (made.forms ∙ ap (map (form_for limits)) types))
