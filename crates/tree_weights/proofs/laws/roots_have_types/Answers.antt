use Rattle.tree_weights.proofs.RootTypeLaws.{root_typed}
use Rattle.tree_weights.proofs.laws.roots_have_types.Goals as goal

pub returns : goal.returns
returns c = λ facts p w same entry i e t h. root_typed facts p w entry i same e t h
