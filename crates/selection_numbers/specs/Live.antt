-- The picks that count: those that aren't in a member that isn't chosen.
use Rattle.std.specs.Prelude.{◌≡◌, ◌≤◌, ◌<◌, ℕ, suc, List, [], ◌∷◌, map}
use Rattle.choice_tree.specs.declared.selection.Choice.{Choice}
use Rattle.choice_tree.specs.Choices.{member_of}
use Rattle.choice_tree.specs.Selections.{Fits, cost, count_others, edited_picks, plain}
use Rattle.choice_tree.specs.WeightedTrees.{Weighted, Weighteds, Others, plainly, pick}
use Rattle.choice_tree.specs.WeightedTrees.{no_weighted, weighted_and, no_others, other_and}
use Rattle.choice_tree.specs.WeightedTrees.{numbered}
use Rattle.selection_numbers.specs.MemberCounts.{member_counts}

-- what is chosen at these picks
abbrev pub entries : (ℕ → ℕ) → List ℕ → List Choice
entries m ps = map (λ p. record { pick = p; member = m p }) ps

-- the selection of the picks that count
abbrev pub live_selection : (ℕ → ℕ) → Weighted → List Choice
live_selection m w = entries m (edited_picks m w)

-- at each pick a member is chosen
abbrev mutual
  pub AreMembers : (ℕ → ℕ) → Weighted → Type 0
  AreMembers m (plainly k ws) = AllMembers m ws
  AreMembers m (pick number base os) =
      (m number ≤ count_others os) × AreMembers m base × OtherMembers m os

  pub AllMembers : (ℕ → ℕ) → Weighteds → Type 0
  AllMembers m no_weighted = Unit {0}
  AllMembers m (weighted_and w ws) = AreMembers m w × AllMembers m ws

  pub OtherMembers : (ℕ → ℕ) → Others → Type 0
  OtherMembers m no_others = Unit {0}
  OtherMembers m (other_and rule c w os) = AreMembers m w × OtherMembers m os

-- the picks from one on have so many members, of which one is chosen at each
abbrev pub AreWithin : (ℕ → ℕ) → ℕ → List ℕ → Type 0
AreWithin m from [] = Unit {0}
AreWithin m from (n ∷ ns) = (m from < n) × AreWithin m (suc from) ns

-- the selection of the picks that count makes the same tree at the same cost
pub record LiveStands (m : ℕ → ℕ) (w : Weighted) : Type 0 where
  pub tree : plain (member_of (live_selection m w)) w ≡ plain m w
  pub cost_is : cost (member_of (live_selection m w)) w ≡ cost m w

-- picks that don't count are no matter
abbrev pub LivePicksSuffice : Type 0
LivePicksSuffice = (m : ℕ → ℕ) (w : Weighted) → AreMembers m w → LiveStands m w

-- a member at each pick of a numbered tree makes a selection that fits
abbrev pub LivePicksFit : Type 0
LivePicksFit =
    (m : ℕ → ℕ) (u : Weighted) → AreWithin m 0 (member_counts (numbered u 0))
    → AreMembers m (numbered u 0) × Fits (numbered u 0) (live_selection m (numbered u 0))
