use Rattle.typed_trees.proofs.WholeRules.{rules_whole}
use Rattle.typed_trees.proofs.laws.rules_make_wholes.Goals as goal

pub returns : goal.returns
returns c = rules_whole
