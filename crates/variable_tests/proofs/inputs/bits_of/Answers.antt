use Rattle.std.proofs.Common.{◌∙◌, ap, arith}
use Rattle.variable_tests.proofs.inputs.bits_of.Goals as goal

pub returns : goal.returns
returns c =
    let start = ap (λ h. h.variables) c.in_ok-g.ensures in
    let added = c.in_ok-_values.ensures.adds.variables in
    c.variables.ensures ∙ omega (arith, start, added)
