use Rattle.eml_rewrite.proofs.SmallCosts.{program_cheap}
use Rattle.eml_rewrite.proofs.laws.rewritten_trees_have_small_costs.Goals as goal

pub returns : goal.returns
returns c = λ g s n few. program_cheap n g s few
