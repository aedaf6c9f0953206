-- What may be chosen at the picks of a tree, one after another.
use Rattle.std.specs.Prelude.{ℕ, zero, suc, ◌-◌, nat_le, if◌then◌else◌, List, [], ◌∷◌, ◌++◌, map}
use Rattle.choice_tree.specs.declared.selection.Choice.{Choice}
use Rattle.choice_tree.specs.WeightedTrees.{Weighted, Weighteds, Others, plainly, pick, no_weighted}
use Rattle.choice_tree.specs.WeightedTrees.{weighted_and, no_others, other_and}

mutual
  -- the next pick by its number, with what comes after its base and after its other members
  pub data Plan : Type 0 where
    done : Plan
    at_pick : (number : ℕ) (base : Plan) (others : Ways) → Plan

  -- members at their costs, each with what comes after it
  pub data Ways : Type 0 where
    no_ways : Ways
    way_and : (cost : ℕ) (next : Plan) (ways : Ways) → Ways

-- the picks of a tree before others; those in a member come only where it is chosen
abbrev mutual
  pub planned : Weighted → Plan → Plan
  planned (plainly k ws) next = all_planned ws next
  planned (pick number base os) next = at_pick number (planned base next) (ways_by os next)

  pub all_planned : Weighteds → Plan → Plan
  all_planned no_weighted next = next
  all_planned (weighted_and w ws) next = planned w (all_planned ws next)

  pub ways_by : Others → Plan → Ways
  ways_by no_others next = no_ways
  ways_by (other_and rule cost w os) next = way_and cost (planned w next) (ways_by os next)

abbrev pub planned_each : List Weighted → Plan → Plan
planned_each [] next = next
planned_each (w ∷ ws) next = planned w (planned_each ws next)

-- the choices at a cost, in order; by the members from a number on
abbrev mutual
  pub listed : Plan → ℕ → List (List Choice)
  listed done zero = [] ∷ []
  listed done (suc n) = []
  listed (at_pick number base ws) n = listed base n ++ listed_by ws number 1 n

  pub listed_by : Ways → ℕ → ℕ → ℕ → List (List Choice)
  listed_by no_ways number i n = []
  listed_by (way_and cost next ws) number i n =
      (if nat_le cost n
      then map (λ s. record { pick = number; member = i } ∷ s) (listed next (n - cost)) else [])
      ++ listed_by ws number (suc i) n
