use Rattle.typed_trees.proofs.LocalTypes.{type_follows}
use Rattle.typed_trees.proofs.laws.types_follow_from_locals.Goals as goal

pub returns : goal.returns
returns c = λ σ τ w h own. type_follows σ τ h w own
