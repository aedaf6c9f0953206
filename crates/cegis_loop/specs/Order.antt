-- The order in which questions are asked.
use Rattle.std.specs.Prelude.{◌≡◌, ℕ, ◌+◌, ◌-◌, ◌<◌, ◌≤◌, nat_lt, if◌then◌else◌, ◌⊎◌}
use Rattle.std.specs.Prelude.{List, [], ◌∷◌, ◌++◌, length, Option, Some, None}
use Rattle.std.specs.List.{Contains}
use Rattle.cegis_loop.specs.Space.{Space, IsInput, IsLow, IsFail}
use Rattle.cegis_loop.specs.State.{First, Low, Fail, Told, Refuted, Open}

-- the bounds one after the other: 0, 1, .. up to one less than the greatest cost, and then none
abbrev pub bound_at : ℕ → ℕ → Option ℕ
bound_at most_cost k = if nat_lt k most_cost then Some k else None

-- which question is due: for an input, for a choice within a bound, or for an input on which a
-- choice fails that was found within a bound
pub data Due (C : Type 0) : Type 0 where
  DueFirst : Due C
  DueLow : (bound : Option ℕ) → Due C
  DueFail : (bound : Option ℕ) (choice : C) → Due C

-- How questions end: no input; no choice; a choice that fails nowhere, where the last refuted
-- question for a choice was over so many cases; a question that isn't refuted and had no answer.
pub data End (C : Type 0) : Type 0 where
  NoInput : End C
  NoChoice : End C
  Settled : (choice : C) (cases : ℕ) → End C
  Unfinished : End C

-- These questions are in order, from the one that is due on to the end. `before` are the inputs
-- kept so far and `later` those that the questions keep; the last refuted question for a choice was
-- over `ruled` cases.
pub data Asks {C I : Type 0} (s : Space C I)
    : Due C → ℕ → List I → List I → List (Told C) → End C → Type 0 where
  first_refuted : {ruled : ℕ}
      → Asks s DueFirst ruled [] [] (Refuted First ∷ []) NoInput
  first_open : {ruled : ℕ} {x : I} {later : List I} {rest : List (Told C)} {end : End C}
      → IsInput s x
      → Asks s (DueLow (bound_at s.most_cost 0)) ruled (x ∷ []) later rest end
      → Asks s DueFirst ruled [] (x ∷ later) (Open First ∷ rest) end
  first_left : {ruled : ℕ}
      → Asks s DueFirst ruled [] [] (Open First ∷ []) Unfinished
  low_refuted : {k cases ruled : ℕ} {before later : List I} {rest : List (Told C)} {end : End C}
      → cases ≡ length before
      → Asks s (DueLow (bound_at s.most_cost (k + 1))) cases before later rest end
      → Asks s (DueLow (Some k)) ruled before later (Refuted (Low (Some k) cases) ∷ rest) end
  any_refuted : {cases ruled : ℕ} {before : List I}
      → cases ≡ length before
      → Asks s (DueLow None) ruled before [] (Refuted (Low None cases) ∷ []) NoChoice
  low_open : {bound : Option ℕ} {cases ruled : ℕ} {before later : List I} {c : C}
      {rest : List (Told C)} {end : End C}
      → cases ≡ length before
      → IsLow s bound before c
      → Asks s (DueFail bound c) ruled before later rest end
      → Asks s (DueLow bound) ruled before later (Open (Low bound cases) ∷ rest) end
  low_left : {bound : Option ℕ} {cases ruled : ℕ} {before : List I}
      → cases ≡ length before
      → Asks s (DueLow bound) ruled before [] (Open (Low bound cases) ∷ []) Unfinished
  fail_refuted : {bound : Option ℕ} {ruled : ℕ} {before : List I} {c : C}
      → Asks s (DueFail bound c) ruled before [] (Refuted (Fail c) ∷ []) (Settled c ruled)
  fail_open : {bound : Option ℕ} {ruled : ℕ} {before later : List I} {c : C} {x : I}
      {rest : List (Told C)} {end : End C}
      → IsFail s c x
      → Asks s (DueLow bound) ruled (before ++ x ∷ []) later rest end
      → Asks s (DueFail bound c) ruled before (x ∷ later) (Open (Fail c) ∷ rest) end
  fail_left : {bound : Option ℕ} {ruled : ℕ} {before : List I} {c : C}
      → Asks s (DueFail bound c) ruled before [] (Open (Fail c) ∷ []) Unfinished

-- the questions of a search that kept these inputs, and how they end
abbrev pub IsSearch : {C I : Type 0} → Space C I → List I → List (Told C) → End C → Type 0
IsSearch s kept asked end = Asks s DueFirst 0 [] kept asked end

-- A choice that fails nowhere needs a closing question where it costs something and the last
-- refuted question for a choice was over fewer inputs than are kept.
pub record NeedsClosing {C I : Type 0} (s : Space C I) (kept : List I) (asked : List (Told C))
    (c : C) (cases : ℕ) : Type 0 where
  pub search : IsSearch s kept asked (Settled c cases)
  pub costs : 0 < s.cost c
  pub fewer : cases < length kept

-- the questions of a whole search, with the closing one where it is needed: whether a cheaper
-- choice agrees on all kept inputs
pub data IsWholeSearch {C I : Type 0} (s : Space C I) (kept : List I)
    : List (Told C) → End C → Type 0 where
  no_input : {asked : List (Told C)}
      → IsSearch s kept asked NoInput
      → IsWholeSearch s kept asked NoInput
  no_choice : {asked : List (Told C)}
      → IsSearch s kept asked NoChoice
      → IsWholeSearch s kept asked NoChoice
  settled : {asked : List (Told C)} {c : C} {cases : ℕ}
      → IsSearch s kept asked (Settled c cases)
      → (s.cost c ≡ 0) ⊎ (length kept ≤ cases)
      → IsWholeSearch s kept asked (Settled c cases)
  closed : {asked whole : List (Told C)} {c : C} {cases all : ℕ}
      → NeedsClosing s kept asked c cases
      → all ≡ length kept
      → whole ≡ asked ++ Refuted (Low (Some (s.cost c - 1)) all) ∷ []
      → IsWholeSearch s kept whole (Settled c all)
  left : {asked : List (Told C)}
      → IsSearch s kept asked Unfinished
      → IsWholeSearch s kept asked Unfinished
  closing_left : {asked whole : List (Told C)} {c : C} {cases all : ℕ}
      → NeedsClosing s kept asked c cases
      → all ≡ length kept
      → whole ≡ asked ++ Open (Low (Some (s.cost c - 1)) all) ∷ []
      → IsWholeSearch s kept whole Unfinished

-- k is the least number such that no question with a bound of k or more was refuted
pub record IsAtLeast {C : Type 0} (asked : List (Told C)) (k : ℕ) : Type 0 where
  pub none : (j cases : ℕ) → Contains asked (Refuted (Low (Some j) cases)) → j < k
  pub least : (j : ℕ) → k ≡ j + 1
      → (cases : ℕ) × Contains asked (Refuted (Low (Some j) cases))
