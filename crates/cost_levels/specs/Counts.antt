-- How many selections there are, counted up to a bound.
use Rattle.std.specs.Prelude.{◌≡◌, ◌<◌, ◌+◌, ◌*◌, ℕ, suc, List, Some, All, length, min, slice_get}
use Rattle.choice_tree.specs.declared.selection.Choice.{Choice}
use Rattle.cost_levels.specs.declared.counting.Counts.{Counts}
use Rattle.cost_levels.specs.declared.rows.Row.{Row}
use Rattle.cost_levels.specs.Plans.{Plan, listed}
use Rattle.cost_levels.specs.Rows.{Shows}

-- one more than the most that are told apart
abbrev pub count_most : ℕ
count_most = 100001

-- how many selections a list has, or the bound where there are as many or more
abbrev pub counted : List (List Choice) → ℕ
counted ss = min (length ss) count_most

-- the place of the number at an entry and a cost
abbrev pub place_in : Counts → ℕ → ℕ → ℕ
place_in c entry cost = entry * c.width + cost

-- it stands in the table
abbrev pub Reaches : Counts → ℕ → ℕ → Type 0
Reaches c entry cost = place_in c entry cost < length c.numbers.items

-- all numbers of an entry do
abbrev pub ReachesAll : Counts → ℕ → Type 0
ReachesAll c entry = (cost : ℕ) → cost < c.width → Reaches c entry cost

-- and those of each entry that a row goes on to
pub record ReachesRow (c : Counts) (row : Row) : Type 0 where
  pub base : ReachesAll c row.base
  pub others : All (λ v. ReachesAll c v.next) row.others.items

-- as far as the table goes, its numbers are those of the selections from an entry on at a cost
abbrev pub CountsSoFar : List Row → Counts → Type 0
CountsSoFar rows c =
    (entry cost : ℕ) → cost < c.width → Reaches c entry cost → (p : Plan) → Shows rows entry p
    → slice_get c.numbers.items (place_in c entry cost) ≡ Some (counted (listed p cost))

-- and it goes on to the last entry
pub record AreCounts (rows : List Row) (c : Counts) : Type 0 where
  pub so_far : CountsSoFar rows c
  pub whole : length c.numbers.items ≡ suc (length rows) * c.width
