use Rattle.std.proofs.Common.{◌≡◌, sym, ◌∙◌}
use Rattle.input_space.specs.Inputs.{are_within}
use Rattle.input_space.proofs.Members.{are_within-input, input-are_within}
use Rattle.input_space.proofs.within.in_bounds.Goals as goal

pub returns : goal.returns
returns c =
    let ps = c.args.b.now.params in
    let vs = c.args.c.now.values in
    let is : c.are_within.result ≡ are_within ps vs = rw (c.items.ensures, c.items-2.ensures) at c.are_within.ensures in
    (λ t. input-are_within ps vs (sym is ∙ t), λ h. is ∙ are_within-input ps vs h)
