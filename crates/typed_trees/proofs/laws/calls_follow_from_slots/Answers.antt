use Rattle.typed_trees.proofs.LocalTypes.{calls_follow}
use Rattle.typed_trees.proofs.laws.calls_follow_from_slots.Goals as goal

pub returns : goal.returns
returns c = calls_follow
