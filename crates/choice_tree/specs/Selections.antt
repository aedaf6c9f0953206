-- What a selection makes of a weighted tree.
use Rattle.std.specs.Prelude.{◌≡◌, ◌≤◌, ℕ, zero, suc, ◌+◌, ◌*◌, min, max, Bool, true, false, ◌==◌}
use Rattle.std.specs.Prelude.{◌||◌}
use Rattle.std.specs.Prelude.{◌&&◌, nat_le, List, [], ◌∷◌, ◌++◌, Option, None, slice_get}
use Rattle.std.specs.Option.{unwrap_or}
use Rattle.choice_tree.specs.declared.selection.Choice.{Choice}
use Rattle.choice_tree.specs.Choices.{member_of, Rises, NamesBy}
use Rattle.mpy_tree.specs.Trees.{Tree, Trees, node, no_trees, tree_and}
use Rattle.choice_tree.specs.Contexts.{line_below}
use Rattle.choice_tree.specs.Rewriting.{Edit, edit_by}
use Rattle.choice_tree.specs.WeightedTrees.{Weighted, Weighteds, Others, plainly, pick}
use Rattle.choice_tree.specs.WeightedTrees.{no_weighted, weighted_and, no_others, other_and}
use Rattle.choice_tree.specs.WeightedTrees.{base_of}

-- the member besides the base, by its number from 1
abbrev pub other_at : {A : Type 0} → ℕ → List A → Option A
other_at zero xs = None
other_at (suc i) xs = slice_get xs i

-- the chosen member: the base for 0, and where there is none of that number
abbrev pub chosen : {A : Type 0} → ℕ → A → List A → A
chosen i base xs = unwrap_or (other_at i xs) base

-- the plain tree under the members that are chosen
abbrev mutual
  pub plain : (ℕ → ℕ) → Weighted → Tree
  plain m (plainly k ws) = node k (plains m ws)
  plain m (pick number base os) = chosen (m number) (plain m base) (other_plains m os)

  pub plains : (ℕ → ℕ) → Weighteds → Trees
  plains m no_weighted = no_trees
  plains m (weighted_and w ws) = tree_and (plain m w) (plains m ws)

  pub other_plains : (ℕ → ℕ) → Others → List Tree
  other_plains m no_others = []
  other_plains m (other_and rule cost w os) = plain m w ∷ other_plains m os

-- plain arms before other parts
abbrev pub arms_plain : (ℕ → ℕ) → List Weighted → Trees → Trees
arms_plain m [] ts = ts
arms_plain m (w ∷ ws) ts = tree_and (plain m w) (arms_plain m ws ts)

-- its cost; members that aren't chosen don't count, nor do picks in them
abbrev mutual
  pub cost : (ℕ → ℕ) → Weighted → ℕ
  cost m (plainly k ws) = costs m ws
  cost m (pick number base os) = chosen (m number) (cost m base) (other_costs m os)

  pub costs : (ℕ → ℕ) → Weighteds → ℕ
  costs m no_weighted = 0
  costs m (weighted_and w ws) = cost m w + costs m ws

  pub other_costs : (ℕ → ℕ) → Others → List ℕ
  other_costs m no_others = []
  other_costs m (other_and rule c w os) = (c + cost m w) ∷ other_costs m os

-- its edits, in order of place, an outer one before its inner ones
abbrev mutual
  pub edits : (ℕ → ℕ) → Weighted → ℕ → List Edit
  edits m (plainly k ws) line = edits_in m ws (line_below k line)
  edits m (pick number base os) line =
      chosen (m number) (edits m base line) (other_edits m os line (base_of base))

  pub edits_in : (ℕ → ℕ) → Weighteds → ℕ → List Edit
  edits_in m no_weighted line = []
  edits_in m (weighted_and w ws) line = edits m w line ++ edits_in m ws line

  pub other_edits : (ℕ → ℕ) → Others → ℕ → Tree → List (List Edit)
  other_edits m no_others line old = []
  other_edits m (other_and rule c w os) line old =
      (edit_by line rule old (plain m w) ∷ edits m w line) ∷ other_edits m os line old

-- the picks of these edits
abbrev mutual
  pub edited_picks : (ℕ → ℕ) → Weighted → List ℕ
  edited_picks m (plainly k ws) = picks_in m ws
  edited_picks m (pick number base os) =
      chosen (m number) (edited_picks m base) (other_picks m os number)

  pub picks_in : (ℕ → ℕ) → Weighteds → List ℕ
  picks_in m no_weighted = []
  picks_in m (weighted_and w ws) = edited_picks m w ++ picks_in m ws

  pub other_picks : (ℕ → ℕ) → Others → ℕ → List (List ℕ)
  other_picks m no_others number = []
  other_picks m (other_and rule c w os) number =
      (number ∷ edited_picks m w) ∷ other_picks m os number

abbrev pub count_others : Others → ℕ
count_others no_others = 0
count_others (other_and rule c w os) = suc (count_others os)

-- a pick of the tree has this number and this member
abbrev mutual
  pub has_member : Weighted → ℕ → ℕ → Bool
  has_member (plainly k ws) p i = any_has_member ws p i
  has_member (pick number base os) p i =
      (number == p) && nat_le i (count_others os) || has_member base p i
      || other_has_member os p i

  pub any_has_member : Weighteds → ℕ → ℕ → Bool
  any_has_member no_weighted p i = false
  any_has_member (weighted_and w ws) p i = has_member w p i || any_has_member ws p i

  pub other_has_member : Others → ℕ → ℕ → Bool
  other_has_member no_others p i = false
  other_has_member (other_and rule c w os) p i = has_member w p i || other_has_member os p i

-- some tree of a list passes a test
abbrev pub any_of : (Weighted → Bool) → List Weighted → Bool
any_of f [] = false
any_of f (w ∷ ws) = f w || any_of f ws

-- the selection fits the tree
abbrev pub Fits : Weighted → List Choice → Type 0
Fits w s = Rises 0 s × NamesBy (has_member w) s

-- the same as a test
abbrev pub fits_from : Weighted → ℕ → List Choice → Bool
fits_from w from [] = true
fits_from w from (c ∷ rest) =
    nat_le from c.pick && nat_le 1 c.member && has_member w c.pick c.member
    && fits_from w (suc c.pick) rest

-- the greatest cost
abbrev mutual
  pub most_cost : Weighted → ℕ
  most_cost (plainly k ws) = most_costs ws
  most_cost (pick number base os) = max (most_cost base) (other_most_cost os)

  pub most_costs : Weighteds → ℕ
  most_costs no_weighted = 0
  most_costs (weighted_and w ws) = most_cost w + most_costs ws

  pub other_most_cost : Others → ℕ
  other_most_cost no_others = 0
  other_most_cost (other_and rule c w os) = max (c + most_cost w) (other_most_cost os)

-- the product of the numbers of members over all picks
abbrev mutual
  pub choices : Weighted → ℕ
  choices (plainly k ws) = choices_in ws
  choices (pick number base os) =
      suc (count_others os) * (choices base * choices_in_others os)

  pub choices_in : Weighteds → ℕ
  choices_in no_weighted = 1
  choices_in (weighted_and w ws) = choices w * choices_in ws

  pub choices_in_others : Others → ℕ
  choices_in_others no_others = 1
  choices_in_others (other_and rule c w os) = choices w * choices_in_others os

-- the count of choices stops at 10^12
abbrev pub stopped : ℕ → ℕ
stopped n = min n 1000000000000

-- What a selection gives: the tree, its cost and its edits.
pub record IsGivenBy (s : List Choice) (w : Weighted) (t : Tree) (n : ℕ) (es : List Edit)
    : Type 0 where
  pub tree : plain (member_of s) w ≡ t
  pub cost_is : cost (member_of s) w ≡ n
  pub edits_are : edits (member_of s) w 0 ≡ es

-- The trees, costs and edits of the selections that fit the weighted tree are those that the
-- relation has.
pub record MadeBySelections (w : Weighted) (IsMade : Tree → ℕ → List Edit → Type 0) : Type 0 where
  pub made : (s : List Choice) → Fits w s
      → IsMade (plain (member_of s) w) (cost (member_of s) w) (edits (member_of s) w 0)
  pub selected : (t : Tree) (n : ℕ) (es : List Edit) → IsMade t n es
      → (s : List Choice) × Fits w s × IsGivenBy s w t n es

-- No selection costs more, and one that fits costs as much.
pub record IsGreatestCost (w : Weighted) : Type 0 where
  pub below : (s : List Choice) → cost (member_of s) w ≤ most_cost w
  pub reached : (s : List Choice) × Fits w s × (cost (member_of s) w ≡ most_cost w)
