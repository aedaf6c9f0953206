-- The goal of the question that looks for a selection.
use Rattle.std.proofs.Common.{◌≡◌, ◌↔◌, ◌≤◌, ◌<◌, ℕ, Bool, true, false, not, ◌&&◌, List, [], ◌∷◌, ◌++◌}
use Rattle.std.proofs.Common.{refl, sym, ap, ◌∙◌, arith, Option, Some, None, inl, inr}
use Rattle.std.specs.Prelude.{All, IfSome, IsSomeAnd, is_some, nat_lt, option_map, slice_index_or}
use Rattle.std.specs.List.{Contains}
use Rattle.std.proofs.lemmas.Bool.{and_parts, cases_lt, lt-ltb, ltb-true, true≢false}
use Rattle.std.proofs.lemmas.List.Elements.{All-cons, All-head, All-nil, All-tail}
use Rattle.std.proofs.lemmas.List.Folds.{list_all-append}
use Rattle.mpy_tree.specs.Shapes.{program_shape}
use Rattle.mpy_tree.specs.Syntax.{Routine}
use Rattle.choice_tree.specs.declared.selection.Choice.{Choice}
use Rattle.choice_tree.specs.Choices.{member_of}
use Rattle.choice_tree.specs.Selections.{Fits, cost, plain}
use Rattle.cegis_loop.specs.Space.{IsLow}
use Rattle.coding_laws.proofs.FullCodings.{grown_tree}
use Rattle.coding_laws.proofs.SpelledMembers.{are_within, read_members}
use Rattle.input_space.specs.declared.case.Case.{Case}
use Rattle.input_space.specs.SelectionBits.{members_at, selection_at, selection_by}
use Rattle.input_space.specs.Tasks.{Task, tree_of}
use Rattle.input_space.specs.TaskSpace.{SelectionMeets, space, wanted_inputs}
use Rattle.input_space.proofs.TaskSpaceLaws.{was_wanted}
use Rattle.selection_numbers.specs.MemberCounts.{member_counts}
use Rattle.selection_numbers.proofs.Live.{live_stands}
use Rattle.selection_numbers.proofs.LiveFits.{live_fits}
use Rattle.query_build.specs.Asking.{AreWanted, MakesProgram}
use Rattle.query_build.specs.Comparing.{all_meet_on, is_cheap, meets_on}
use Rattle.query_build.proofs.Agreeing.{meets_so}

abbrev pub chosen : List ℕ → ℕ → ℕ
chosen is p = slice_index_or is p 0

-- the selection of members that are spelled fits, and makes their program at their cost
record IsTheirs (k : Task) (is : List ℕ) (s : List Choice) : Type 0 where
  pub fits : Fits (tree_of k) s
  pub tree : plain (member_of s) (tree_of k) ≡ plain (chosen is) (tree_of k)
  pub cost_is : cost (member_of s) (tree_of k) ≡ cost (chosen is) (tree_of k)

theirs : (k : Task) (vs : List Bool) (is : List ℕ)
    → members_at (member_counts (tree_of k)) vs 0 ≡ Some is
    → IsTheirs k is (selection_by (tree_of k) is)
theirs k vs is e =
    let ns = member_counts (tree_of k) in
    let live = live_fits (chosen is) (grown_tree k) (are_within ns is [] (read_members ns vs 0 is e)) in
    let stands = live_stands (chosen is) (tree_of k) live.0 in
    record { fits = live.1; tree = stands.tree; cost_is = stands.cost_is }

-- within the bound, by the test
cheap_so : (most : Option ℕ) (n : ℕ)
    → (is_cheap most n ≡ true → IfSome most (λ most. n ≤ most))
    × (IfSome most (λ most. n ≤ most) → is_cheap most n ≡ true)
cheap_so None n = (λ h. tt, λ h. refl)
cheap_so (Some most) n = by (nat_lt most n) refl
  where
    by : (b : Bool) → nat_lt most n ≡ b
        → (not b ≡ true → n ≤ most) × (n ≤ most → not b ≡ true)
    by true e =
        let above : most < n = ltb-true most n e in
        (λ h. absurd cc, λ h. absurd (omega (arith, h, above)))
    by false e = (
      λ h. elim (cases_lt most n) [
        | inl below ↦ absurd (true≢false (sym (lt-ltb most n below) ∙ e))
        | inr fine ↦ fine
      ],
      λ h. refl,
    )

-- the program of the selection gives the reference's value on each wanted case, by the test
all_meet_so : (k : Task) (s : List Choice) (p : List Routine) (xs : List Case)
    → program_shape p ≡ plain (member_of s) (tree_of k) → AreWanted k xs
    → (all_meet_on k p xs ≡ true → All (SelectionMeets k s) xs)
    × (All (SelectionMeets k s) xs → all_meet_on k p xs ≡ true)
all_meet_so k s p [] made wanted = (λ h. All-nil (SelectionMeets k s), λ h. refl)
all_meet_so k s p (x ∷ xs) made wanted =
    let P = Contains (wanted_inputs k) in
    let one = meets_so k s p x made (was_wanted k x (All-head P x xs wanted)) in
    let rest = all_meet_so k s p xs made (All-tail P x xs wanted) in (
      λ h.
          let parts = and_parts (meets_on k p x.values) (all_meet_on k p xs) h in
          All-cons (SelectionMeets k s) x xs (one.0 parts.0) (rest.0 parts.1),
      λ met.
          let first = one.1 (All-head (SelectionMeets k s) x xs met) in
          let others = rest.1 (All-tail (SelectionMeets k s) x xs met) in
          ap (λ b. b && all_meet_on k p xs) first ∙ others,
    )

module _ (k : Task) (budget : ℕ) (vs : List Bool) (most : Option ℕ) (on : List Case)
    (makes : (m : ℕ → ℕ) → MakesProgram k m) (wanted : AreWanted k on) where
  spelled : (is : List ℕ) → members_at (member_counts (tree_of k)) vs 0 ≡ Some is
      → (cheap meets r : Bool) → cheap ≡ is_cheap most (cost (chosen is) (tree_of k))
      → meets ≡ all_meet_on k (makes (chosen is)).0 on → r ≡ ((true && cheap) && meets)
      → (r ≡ true) ↔ IsLow (space k budget) most on (selection_by (tree_of k) is)
  spelled is e cheap meets r c m q =
      let s = selection_by (tree_of k) is in
      let its = theirs k vs is e in
      let made = (makes (chosen is)).1 ∙ sym its.tree in
      let price = cheap_so most (cost (member_of s) (tree_of k)) in
      let agree = all_meet_so k s (makes (chosen is)).0 on made wanted in
      let cheap_is : cheap ≡ is_cheap most (cost (member_of s) (tree_of k)) =
      c ∙ ap (is_cheap most) (sym its.cost_is) in (
        λ h.
            let parts = and_parts cheap meets (sym q ∙ h) in
            record {
              choice = its.fits;
              within = price.0 (sym cheap_is ∙ parts.0);
              agrees = agree.0 (sym m ∙ parts.1);
            },
        λ low.
            q ∙ ap (λ b. b && meets) (cheap_is ∙ price.1 low.within) ∙ m ∙ agree.1 low.agrees,
      )

  by_members : (o : Option (List ℕ)) → members_at (member_counts (tree_of k)) vs 0 ≡ o
      → (within cheap meets r : Bool) → within ≡ is_some o
      → ((is : List ℕ) → o ≡ Some is → cheap ≡ is_cheap most (cost (chosen is) (tree_of k)))
      → ((is : List ℕ) → o ≡ Some is → meets ≡ all_meet_on k (makes (chosen is)).0 on)
      → r ≡ ((within && cheap) && meets)
      → (r ≡ true) ↔ IsSomeAnd (option_map (selection_by (tree_of k)) o)
      (IsLow (space k budget) most on)
  by_members None e within cheap meets r w c m q =
      let none : r ≡ false = q ∙ ap (λ b. (b && cheap) && meets) w in
      (λ h. absurd (true≢false (sym h ∙ none)), λ h. absurd h)
  by_members (Some is) e within cheap meets r w c m q =
      spelled is e cheap meets r (c is refl) (m is refl)
      (q ∙ ap (λ b. (b && cheap) && meets) w)

  -- the goal is true exactly where truth values spell what is looked for
  pub low_goal : (within cheap meets r : Bool)
      → within ≡ is_some (members_at (member_counts (tree_of k)) vs 0)
      → ((is : List ℕ) → members_at (member_counts (tree_of k)) vs 0 ≡ Some is
      → cheap ≡ is_cheap most (cost (chosen is) (tree_of k)))
      → ((is : List ℕ) → members_at (member_counts (tree_of k)) vs 0 ≡ Some is
      → meets ≡ all_meet_on k (makes (chosen is)).0 on)
      → r ≡ ((within && cheap) && meets)
      → (r ≡ true) ↔ IsSomeAnd (selection_at (tree_of k) vs 0) (IsLow (space k budget) most on)
  low_goal within cheap meets r w c m q =
      by_members (members_at (member_counts (tree_of k)) vs 0) refl within cheap meets r w c m q

and_true : (b : Bool) → (b && true) ≡ b
and_true true = refl
and_true false = refl

-- one case more
pub all_meet_more : (k : Task) (p : List Routine) (xs : List Case) (x : Case)
    → all_meet_on k p (xs ++ x ∷ []) ≡ (all_meet_on k p xs && meets_on k p x.values)
all_meet_more k p xs x =
    let test = λ (y : Case). meets_on k p y.values in
    list_all-append test xs (x ∷ [])
    ∙ ap (λ b. all_meet_on k p xs && b) (and_true (meets_on k p x.values))
