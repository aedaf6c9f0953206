-- The selections of a weighted tree, by their costs.
use Rattle.std.specs.Prelude.{◌≡◌, ℕ, List}
use Rattle.std.specs.List.{Contains}
use Rattle.choice_tree.specs.declared.selection.Choice.{Choice}
use Rattle.choice_tree.specs.Choices.{member_of}
use Rattle.choice_tree.specs.Selections.{Fits, cost, plain}
use Rattle.choice_tree.specs.WeightedTrees.{Weighted}
use Rattle.cost_levels.specs.Plans.{done, listed, planned}

-- the selections of a cost that name no pick in a member that isn't chosen
abbrev pub level : Weighted → ℕ → List (List Choice)
level w n = listed (planned w done) n

-- a selection of the level of this one's cost, which makes the same tree
pub record Stands (w : Weighted) (s : List Choice) : Type 0 where
  pub selection : List Choice
  pub there : Contains (level w (cost (member_of s) w)) selection
  pub tree : plain (member_of selection) w ≡ plain (member_of s) w

-- Each level has selections of its cost that fit, and for each selection one that makes the same
-- tree stands in the level of its cost.
pub record AreLevels (w : Weighted) : Type 0 where
  pub each_fits : (n : ℕ) (s : List Choice) → Contains (level w n) s → Fits w s
  pub each_costs : (n : ℕ) (s : List Choice) → Contains (level w n) s
      → cost (member_of s) w ≡ n
  pub each_made : (s : List Choice) → Stands w s
