-- Trials of the selections of levels.
use Rattle.std.proofs.Common.{◌≡◌, ◌⊎◌, ℕ, ◌+◌, ◌<◌, ◌≤◌, List, Option, None, Some, length, sym, ap, subst, ◌∙◌, arith, slice_get, inl, inr}
use Rattle.std.specs.Prelude.{All, IfSome}
use Rattle.std.specs.List.{Contains}
use Rattle.std.specs.List.Sorted.{IsPermutation}
use Rattle.std.proofs.lemmas.List.Sorted.{Contains-permutation, IsPermutation-sym}
use Rattle.std.proofs.lemmas.Bool.{cases_lt}
use Rattle.std.proofs.lemmas.Option.{same_Some, slice_get_within}
use Rattle.mpy_tree.specs.Shapes.{program_shape}
use Rattle.choice_tree.specs.declared.selection.Choice.{Choice}
use Rattle.choice_tree.specs.Choices.{member_of}
use Rattle.choice_tree.specs.Contexts.{elsewhere, outermost}
use Rattle.choice_tree.specs.Growing.{grown, steps}
use Rattle.choice_tree.specs.Selections.{cost, most_cost, plain}
use Rattle.choice_tree.proofs.GreatestCost.{is_greatest}
use Rattle.cost_levels.specs.Levels.{AreLevels, level}
use Rattle.cost_levels.proofs.Levelled.{are_levels}
use Rattle.input_space.specs.declared.case.Case.{Case}
use Rattle.input_space.specs.Tasks.{Task, setting, tree_of}
use Rattle.cegis_loop.specs.Space.{IsLow}
use Rattle.list_questions.specs.declared.trial.Reached.{Reached}
use Rattle.list_questions.specs.Answering.{NoneLow}
use Rattle.list_questions.specs.Asking.{AllFail, Fails, IsBeyond, IsReached}
use Rattle.input_space.specs.TaskSpace.{SelectionMeets, space}
use Rattle.list_questions.specs.Trials.{StopsAt}
use Rattle.input_space.proofs.Elements.{at_place}

levels : (k : Task) → AreLevels (tree_of k)
levels k = let t = program_shape k.submission in are_levels (grown (setting k) (steps t) elsewhere (outermost (setting k)) t)

eq_or_below : (j n : ℕ) → j < n + 1 → (j ≡ n) ⊎ (j < n)
eq_or_below j n below = elim (cases_lt j n) [ inl lower ↦ inr lower | inr higher ↦ inl (omega arith) ]

-- one selection more fails
pub fail_more : (k : Task) (xs : List Case) (ss : List (List Choice)) (from n : ℕ) (s : List Choice) → AllFail k xs ss from n → slice_get ss n ≡ Some s → Fails k xs s → AllFail k xs ss from (n + 1)
fail_more k xs ss from n s before at here i t on below found = elim (eq_or_below i n below) [
  | inl same ↦ subst (Fails k xs) (same_Some s t (sym at ∙ ap (slice_get ss) (sym same) ∙ found)) here
  | inr lower ↦ before i t on lower found
]

-- the selections from one place to another were passed by
pub passed_to : (k : Task) (xs : List Case) (r : Reached) (place : ℕ) → IsReached k xs r → StopsAt k xs r.level.items r.passed place
    → IsReached k xs (record { cost = r.cost; level = r.level; passed = place })
passed_to k xs r place is stops = record {
  level_is = is.level_is;
  within = stops.within;
  lower = is.lower;
  passed_by = λ i s on below at. elim (cases_lt i r.passed) [
    | inl lower ↦ is.passed_by i s on lower at
    | inr higher ↦ stops.passed i s higher below at
  ];
}

-- all of the level that was reached fail
whole_level : (k : Task) (xs : List Case) (r : Reached) → IsReached k xs r → length r.level.items ≤ r.passed → (s : List Choice) → Contains (level (tree_of k) r.cost) s → Fails k xs s
whole_level k xs r is all s there =
    let at = at_place r.level.items s (Contains-permutation (level (tree_of k) r.cost) r.level.items s is.level_is there) in
    let below = slice_get_within r.level.items at.0 s at.1 in
    is.passed_by at.0 s (omega arith) (omega (arith, below, all)) at.1

-- and so the next level is reached
pub next_reached : (k : Task) (xs : List Case) (r new : Reached) → IsReached k xs r → length r.level.items ≤ r.passed → new.cost ≡ r.cost + 1
    → IsPermutation (level (tree_of k) (r.cost + 1)) new.level.items → new.passed ≡ 0 → IsReached k xs new
next_reached k xs r new is all cost_is level_is none = record {
  level_is = subst (λ n. IsPermutation (level (tree_of k) n) new.level.items) (sym cost_is) level_is;
  within = omega (arith, none);
  lower = λ n s below there. elim (eq_or_below n r.cost (omega (arith, below, cost_is))) [
    | inl same ↦ whole_level k xs r is all s (subst (λ m. Contains (level (tree_of k) m) s) same there)
    | inr lower ↦ is.lower n s lower there
  ];
  passed_by = λ i s on below at. absurd (omega (arith, below, none));
}

-- at the start
pub fresh_reached : (k : Task) (xs : List Case) (r : Reached) → r.cost ≡ 0 → IsPermutation (level (tree_of k) 0) r.level.items → r.passed ≡ 0 → IsReached k xs r
fresh_reached k xs r cost_is level_is none = record {
  level_is = subst (λ n. IsPermutation (level (tree_of k) n) r.level.items) (sym cost_is) level_is;
  within = omega (arith, none);
  lower = λ n s below there. absurd (omega (arith, below, cost_is));
  passed_by = λ i s on below at. absurd (omega (arith, below, none));
}

-- a cost that isn't beyond the bound is within it, and one within a bound is below those beyond it
within_bound : (most : Option ℕ) (n : ℕ) → (IsBeyond most n → ⊥) → IfSome most (λ m. n ≤ m)
within_bound None n h = tt
within_bound (Some m) n h = elim (cases_lt m n) [ inl above ↦ absurd (h above) | inr within ↦ within ]

below_beyond : (most : Option ℕ) (n m : ℕ) → IsBeyond most m → IfSome most (λ b. n ≤ b) → n < m
below_beyond None n m beyond within = absurd beyond
below_beyond (Some b) n m beyond within = omega (arith, beyond, within)

-- selections of one tree agree on the same cases
same_agree : (k : Task) (s t : List Choice) (xs : List Case) → plain (member_of t) (tree_of k) ≡ plain (member_of s) (tree_of k) → All (SelectionMeets k s) xs → All (SelectionMeets k t) xs
same_agree k s t xs same met = λ i d within p made. met i d within p (made ∙ same)

-- what was found is low
pub found_low : (k : Task) (xs : List Case) (r : Reached) (most : Option ℕ) (s : List Choice) → IsReached k xs r → Contains r.level.items s → (IsBeyond most r.cost → ⊥) → All (SelectionMeets k s) xs
    → IsLow (space k 1) most xs s
found_low k xs r most s is there within agrees =
    let c : Contains (level (tree_of k) r.cost) s = Contains-permutation r.level.items (level (tree_of k) r.cost) s (IsPermutation-sym (level (tree_of k) r.cost) r.level.items is.level_is) there in
    record {
      choice = (levels k).each_fits r.cost s c;
      within = subst (λ n. IfSome most (λ m. n ≤ m)) (sym ((levels k).each_costs r.cost s c)) (within_bound most r.cost within);
      agrees = agrees;
    }

-- beyond the bound nothing is low
pub none_within : (k : Task) (xs : List Case) (r : Reached) (most : Option ℕ) → IsReached k xs r → IsBeyond most r.cost → NoneLow k most xs
none_within k xs r most is beyond s low =
    let w = tree_of k in
    let stands = (levels k).each_made s in
    is.lower (cost (member_of s) w) stands.selection (below_beyond most (cost (member_of s) w) r.cost beyond low.within) stands.there
    (same_agree k s stands.selection xs stands.tree low.agrees)

-- nor after the last level
pub none_left : (k : Task) (xs : List Case) (r : Reached) (most : Option ℕ) → IsReached k xs r → length r.level.items ≤ r.passed → most_cost (tree_of k) ≤ r.cost → NoneLow k most xs
none_left k xs r most is all last s low =
    let w = tree_of k in
    let n = cost (member_of s) w in
    let stands = (levels k).each_made s in
    let agrees = same_agree k s stands.selection xs stands.tree low.agrees in
    let within = (is_greatest (setting k) k.submission).below s in
    elim (cases_lt n r.cost) [
      | inl lower ↦ is.lower n stands.selection lower stands.there agrees
      | inr higher ↦
          let same : n ≡ r.cost = omega (arith, higher, within, last) in
          whole_level k xs r is all stands.selection (subst (λ m. Contains (level w m) stands.selection) same stands.there) agrees
    ]
