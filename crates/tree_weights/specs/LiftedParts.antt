-- The arms of an `if` as weighted trees without picks.
use Rattle.std.specs.Prelude.{List, [], ◌∷◌}
use Rattle.mpy_tree.specs.Syntax.{Branches, no_arms, arm_and}
use Rattle.mpy_tree.specs.Shapes.{arm_shape}
use Rattle.choice_tree.specs.WeightedTrees.{Weighted, lifted}

abbrev pub lifted_arms : Branches → List Weighted
lifted_arms no_arms = []
lifted_arms (arm_and b rest) = lifted (arm_shape b) ∷ lifted_arms rest
