use Rattle.typed_trees.proofs.NumberedTypes.{numbered_type}
use Rattle.typed_trees.proofs.laws.numbers_change_no_type.Goals as goal

pub returns : goal.returns
returns c = numbered_type
