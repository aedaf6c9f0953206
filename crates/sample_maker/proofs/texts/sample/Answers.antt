use Rattle.std.proofs.Common.{◌∙◌}
use Rattle.sample_maker.proofs.texts.sample.Goals as goal

pub returns-clause-bounds : goal.returns-clause-bounds
returns-clause-bounds c = c.from_vec.ensures ∙ c.in_ok-bounds.ensures.items_if_clones_equal (λ x y e. e)

pub returns-clause-rules : goal.returns-clause-rules
returns-clause-rules c = c.from_vec-4.ensures ∙ c.in_ok-rules.ensures.items_if_clones_equal (λ x y e. e)
