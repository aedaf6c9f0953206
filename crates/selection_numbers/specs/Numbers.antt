-- The selections that fit a tree, each by a number: its digits are the members, the first pick's
-- the lowest.
use Rattle.std.specs.Prelude.{◌≡◌, ℕ, zero, suc, ◌<◌, ◌/◌, ◌%◌, List, [], ◌∷◌}
use Rattle.choice_tree.specs.declared.selection.Choice.{Choice}
use Rattle.choice_tree.specs.WeightedTrees.{Weighted}
use Rattle.choice_tree.specs.Selections.{Fits, choices}
use Rattle.selection_numbers.specs.MemberCounts.{member_counts}

-- the member of a pick before those of later picks; the base isn't named
abbrev pub and_member : ℕ → ℕ → List Choice → List Choice
and_member p zero s = s
and_member p (suc i) s = record { pick = p; member = suc i } ∷ s

-- the selection with this number of picks from one on that have so many members
abbrev pub selection_from : ℕ → List ℕ → ℕ → List Choice
selection_from p [] j = []
selection_from p (n ∷ ns) j = and_member p (j % n) (selection_from (suc p) ns (j / n))

abbrev pub selection_of : Weighted → ℕ → List Choice
selection_of w j = selection_from 0 (member_counts w) j

-- a number of a selection
pub record HasNumber (w : Weighted) (s : List Choice) : Type 0 where
  pub number : ℕ
  pub below : number < choices w
  pub is : selection_of w number ≡ s

-- Each number gives a selection that fits the tree, and each that fits has one number below the
-- number of choices, and no other: so there are as many as choices.
pub record AreNumbered (w : Weighted) : Type 0 where
  pub each_fits : (j : ℕ) → Fits w (selection_of w j)
  pub each_has_one : (s : List Choice) → Fits w s → HasNumber w s
  pub one_number : (i j : ℕ) → i < choices w → j < choices w
      → selection_of w i ≡ selection_of w j → i ≡ j
