use Rattle.std.proofs.Common.{◌∙◌, ap, arith}
use Rattle.input_space.specs.SelectionBits.{all_member_bits}
use Rattle.variable_tests.proofs.picks.member_bits_of.Goals as goal

pub returns : goal.returns
returns c =
    let start = ap (λ h. h.variables) c.in_ok-g.ensures in
    let added = c.in_ok-_members.ensures.adds.variables in
    let counts = ap all_member_bits c.in_ok-counts.ensures in
    c.variables.ensures ∙ omega (arith, start, added) ∙ counts
