use Rattle.std.proofs.Common.{◌≡◌, arith, length, map, List, [], ◌∷◌, refl}
use Rattle.choice_tree.specs.declared.tree.Other.{Other}
use Rattle.choice_tree.specs.WeightedTrees.{other_trees}
use Rattle.choice_tree.specs.WeightedViews.{member_seen, members}
use Rattle.sym_expr.proofs.walk.one_more.Goals as goal

as_many : (os : List Other) → length (other_trees (members (map member_seen os))) ≡ length os
as_many [] = refl
as_many (o ∷ os) = let rest = as_many os in omega arith

pub returns : goal.returns
returns c = let many = as_many c.args.others.now in omega arith
