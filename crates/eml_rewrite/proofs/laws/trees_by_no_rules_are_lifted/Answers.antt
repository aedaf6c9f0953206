use Rattle.eml_rewrite.proofs.NoRules.{program_lifted}
use Rattle.eml_rewrite.proofs.laws.trees_by_no_rules_are_lifted.Goals as goal

pub returns : goal.returns
returns c = λ g s none. program_lifted g s none
