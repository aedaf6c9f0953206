-- Live selections, and their order.
use Rattle.std.specs.Prelude.{◌≡◌, ◌<◌, ◌↔◌, ℕ, List, [], ◌∷◌, ◌++◌, All, AllPairs}
use Rattle.std.specs.List.{Contains}
use Rattle.choice_tree.specs.declared.selection.Choice.{Choice}
use Rattle.choice_tree.specs.Choices.{member_of}
use Rattle.choice_tree.specs.Selections.{Fits, chosen, cost}
use Rattle.choice_tree.specs.WeightedTrees.{Weighted, Weighteds, Others, plainly, pick, no_weighted}
use Rattle.choice_tree.specs.WeightedTrees.{weighted_and, no_others, other_and}
use Rattle.cost_levels.specs.Levels.{level}

-- the picks that lie in no member that isn't chosen, in order
abbrev mutual
  pub reached : (ℕ → ℕ) → Weighted → List ℕ
  reached m (plainly k ws) = reached_in m ws
  reached m (pick number base os) =
      number ∷ chosen (m number) (reached m base) (other_reached m os)

  pub reached_in : (ℕ → ℕ) → Weighteds → List ℕ
  reached_in m no_weighted = []
  reached_in m (weighted_and w ws) = reached m w ++ reached_in m ws

  pub other_reached : (ℕ → ℕ) → Others → List (List ℕ)
  other_reached m no_others = []
  other_reached m (other_and rule c w os) = reached m w ∷ other_reached m os

-- the selection fits, and each pick that it names is reached
pub record IsLive (w : Weighted) (s : List Choice) : Type 0 where
  pub fits : Fits w s
  pub live : All (λ c. Contains (reached (member_of s) w) c.pick) s

-- at the first pick where the members differ, the first selection has the smaller one
pub record Before (s t : List Choice) : Type 0 where
  pub pick : ℕ
  pub less : member_of s pick < member_of t pick
  pub same : (q : ℕ) → q < pick → member_of s q ≡ member_of t q

-- In each level stand exactly the live selections of its cost.
abbrev pub LevelsAreLive : Weighted → Type 0
LevelsAreLive w =
    (n : ℕ) (s : List Choice)
    → Contains (level w n) s ↔ (IsLive w s × (cost (member_of s) w ≡ n))

-- Each level is in order, so no selection stands there twice.
abbrev pub LevelsRise : Weighted → Type 0
LevelsRise w = (n : ℕ) → AllPairs Before (level w n)
