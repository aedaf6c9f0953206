use Rattle.input_space.proofs.Members.{are_within-input, input-are_within, is_within-value, value-is_within}
use Rattle.input_space.proofs.laws.within_is_membership.Goals as goal

pub returns : goal.returns
returns c =
    (λ p v. (value-is_within p v, is_within-value p v), λ ps vs. (input-are_within ps vs, are_within-input ps vs))
