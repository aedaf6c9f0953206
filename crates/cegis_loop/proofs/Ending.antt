-- The closing question.
use Rattle.std.specs.Prelude.{◌≡◌, ℕ, ◌-◌, ◌<◌, ◌≤◌, List, [], ◌∷◌, ◌++◌, length, Option, Some, None, IfSome, ◌⊎◌, refl}
use Rattle.std.proofs.Common.{sym, ◌∙◌, subst, inl, inr, arith}
use Rattle.cegis_loop.specs.declared.outcome.Least.{Least}
use Rattle.cegis_loop.specs.declared.outcome.Least.TheVariants.{Found, Nothing, NoCase, Spent, NoMemory}
use Rattle.cegis_loop.specs.declared.asked.Asked.TheVariants as asked
use Rattle.cegis_loop.specs.Asking.{IsAsked}
use Rattle.cegis_loop.specs.Space.{Space, IsLow}
use Rattle.cegis_loop.specs.State.{Low, Told, Refuted, Open, State}
use Rattle.cegis_loop.specs.Order.{Settled, Unfinished, IsSearch, IsAtLeast, NeedsClosing, IsWholeSearch, no_input, no_choice, settled, closed, left, closing_left}
use Rattle.cegis_loop.specs.OrderLaws.{last_ruled}
use Rattle.cegis_loop.proofs.InOrder.{if_more, if_told, at_least_open}
use Rattle.cegis_loop.proofs.LastRuled.{settled_over_last}
use Rattle.cegis_loop.specs.Answers.{IsAnswer, IsKept, Means, NoneBelow, Ends}
use Rattle.std.proofs.lemmas.List.Elements.{Contains-append_left, Contains-push_cases}
use Rattle.cegis_loop.specs.WholeAnswers.{EndsWhole, IsWholeAnswer}

-- an answer that needs no closing question
pub whole : {C I : Type 0} (s : Space C I) (a : State C I) (answer : Least C) → IsAnswer s a answer
    → ((ts : List (Told C)) → Ends s a.kept ts answer → EndsWhole s a.kept ts answer) → IsWholeAnswer s a answer
whole s a answer h f = record {
  means = h.means;
  means_on_kept = h.means_on_kept;
  kept = h.kept;
  budget = h.budget;
  spent = h.spent;
  asked = if_told (λ ts. Ends s a.kept ts answer) (λ ts. EndsWhole s a.kept ts answer) a.told f h.asked;
}

pub whole_nothing : {C I : Type 0} (s : Space C I) (a : State C I) → IsAnswer s a Nothing → IsWholeAnswer s a Nothing
whole_nothing s a h = whole s a Nothing h (λ ts e. no_choice e)

pub whole_no_case : {C I : Type 0} (s : Space C I) (a : State C I) → IsAnswer s a NoCase → IsWholeAnswer s a NoCase
whole_no_case s a h = whole s a NoCase h (λ ts e. no_input e)

pub whole_spent : {C I : Type 0} (s : Space C I) (a : State C I) (k : ℕ) → IsAnswer s a (Spent k) → IsWholeAnswer s a (Spent k)
whole_spent s a k h = whole s a (Spent k) h (λ ts e. (left e.0, e.1))

pub whole_lacked : {C I : Type 0} (s : Space C I) (a : State C I) → IsAnswer s a NoMemory → IsWholeAnswer s a NoMemory
whole_lacked s a h = whole s a NoMemory h (λ ts e. tt)

pub if_both : {T : Type 0} (P Q : T → Type 0) (t : Option T) → IfSome t P → IfSome t Q → IfSome t (λ x. P x × Q x)
if_both P Q None p q = tt
if_both P Q (Some x) p q = (p, q)

-- the choice costs nothing, or the last refuted question for a choice was over all kept inputs
pub found_whole : {C I : Type 0} (s : Space C I) → (a : State C I) (c : C) (n ruled : ℕ) → IsAnswer s a (Found c n) → (n ≡ 0) ⊎ (length a.kept ≤ ruled)
    → IfSome a.told (λ ts. ruled ≡ last_ruled 0 ts) → IsWholeAnswer s a (Found c n)
found_whole {C} s a c n ruled h free over = record {
  means = h.means;
  means_on_kept = h.means_on_kept;
  kept = h.kept;
  budget = h.budget;
  spent = h.spent;
  asked = if_told (λ ts. (ruled ≡ last_ruled 0 ts) × Ends s a.kept ts (Found c n)) (λ ts. EndsWhole s a.kept ts (Found c n)) a.told
      (λ ts w.
      let r : w.1.0.0 ≡ last_ruled 0 ts = settled_over_last s a.kept ts c w.1.0.0 w.1.0.1 in
      let u : ruled ≡ last_ruled 0 ts = w.0 in
      ((w.1.0.0, settled w.1.0.1 (elim free [ inl p ↦ inl (h.means.1.cost_of ∙ p) | inr p ↦ inr (omega arith) ])), w.1.1))
      (if_both (λ ts. ruled ≡ last_ruled 0 ts) (λ ts. Ends s a.kept ts (Found c n)) a.told over h.asked);
}

needs : {C I : Type 0} (s : Space C I) → (kept : List I) (c : C) (n ruled : ℕ) (ts : List (Told C)) → s.cost c ≡ n → 0 < n → ruled < length kept
    → ruled ≡ last_ruled 0 ts → Ends s kept ts (Found c n) → NeedsClosing s kept ts c ruled
needs s kept c n ruled ts cost more fewer over e =
    let r : e.0.0 ≡ last_ruled 0 ts = settled_over_last s kept ts c e.0.0 e.0.1 in
    record { search = subst (λ v. IsSearch s kept ts (Settled c v)) (r ∙ sym over) e.0.1; costs = omega arith; fewer = fewer }

-- a question more that is refuted with a bound below
at_least_below : {C : Type 0} (ts : List (Told C)) (n m : ℕ) → 0 < n → IsAtLeast ts n → IsAtLeast (ts ++ Refuted (Low (Some (n - 1)) m) ∷ []) n
at_least_below {C} ts n m more h = record {
  none = λ j k w. elim (Contains-push_cases ts (Refuted (Low (Some (n - 1)) m)) (Refuted (Low (Some j) k)) w) [
    | inl v ↦ h.none j k v
    | inr e ↦ (let p : j ≡ n - 1 = (cc) in omega arith)
  ];
  least = λ j e. let w = h.least j e in (w.0, Contains-append_left ts (Refuted (Low (Some (n - 1)) m) ∷ []) (Refuted (Low (Some j) w.0)) w.1);
}

-- the closing question is refuted
pub closes : {C I : Type 0} (s : Space C I) → (a b : State C I) (c : C) (n ruled : ℕ) → IsAnswer s a (Found c n) → 0 < n → ruled < length a.kept
    → IfSome a.told (λ ts. ruled ≡ last_ruled 0 ts) → b.kept ≡ a.kept → IsAsked {T = C} s (Low (Some (n - 1)) (length a.kept)) asked.Nothing a b
    → IsWholeAnswer s b (Found c n)
closes {C} {I} s a b c n ruled h more fewer over same w =
    let t : Told C = Refuted (Low (Some (n - 1)) (length a.kept)) in
    let P : List I → Type 0 = λ v. IfSome b.told (λ ts. EndsWhole s v ts (Found c n)) in
    record {
      means = h.means;
      means_on_kept = subst (λ v. Means s v (Found c n)) (sym same) h.means_on_kept;
      kept = subst (IsKept s) (sym same) h.kept;
      budget = w.budget;
      spent = λ z. absurd z;
      asked = subst P (sym same) (if_more (t ∷ []) (λ ts. (ruled ≡ last_ruled 0 ts) × Ends s a.kept ts (Found c n)) (λ ts. EndsWhole s a.kept ts (Found c n)) a.told b.told w.told
          (λ ts u. (
            (
              length a.kept,
              subst (λ m. IsWholeSearch s a.kept (ts ++ Refuted (Low (Some (m - 1)) (length a.kept)) ∷ []) (Settled c (length a.kept))) h.means.1.cost_of
                  (closed (needs s a.kept c n ruled ts h.means.1.cost_of more fewer u.0 u.1) refl refl),
            ),
            at_least_below ts n (length a.kept) more u.1.1,
          ))
          (if_both (λ ts. ruled ≡ last_ruled 0 ts) (λ ts. Ends s a.kept ts (Found c n)) a.told over h.asked));
    }

-- the budget is spent by the closing question
pub closing_spent : {C I : Type 0} (s : Space C I) → (a b : State C I) (c : C) (n ruled : ℕ) → IsAnswer s a (Found c n) → 0 < n → ruled < length a.kept
    → IfSome a.told (λ ts. ruled ≡ last_ruled 0 ts) → b.kept ≡ a.kept → IsAsked {T = C} s (Low (Some (n - 1)) (length a.kept)) asked.Spent a b
    → IsWholeAnswer s b (Spent n)
closing_spent {C} {I} s a b c n ruled h more fewer over same w =
    let t : Told C = Open (Low (Some (n - 1)) (length a.kept)) in
    let P : List I → Type 0 = λ v. IfSome b.told (λ ts. EndsWhole s v ts (Spent n)) in
    record {
      means = h.means.1.least;
      means_on_kept = subst (λ v. NoneBelow s v n) (sym same) h.means_on_kept.1.least;
      kept = subst (IsKept s) (sym same) h.kept;
      budget = w.budget;
      spent = λ z. w.spent;
      asked = subst P (sym same) (if_more (t ∷ []) (λ ts. (ruled ≡ last_ruled 0 ts) × Ends s a.kept ts (Found c n)) (λ ts. EndsWhole s a.kept ts (Spent n)) a.told b.told w.told
          (λ ts u. (
            subst (λ m. IsWholeSearch s a.kept (ts ++ Open (Low (Some (m - 1)) (length a.kept)) ∷ []) Unfinished) h.means.1.cost_of
                (closing_left (needs s a.kept c n ruled ts h.means.1.cost_of more fewer u.0 u.1) refl refl),
            at_least_open ts (Low (Some (n - 1)) (length a.kept)) n u.1.1,
          ))
          (if_both (λ ts. ruled ≡ last_ruled 0 ts) (λ ts. Ends s a.kept ts (Found c n)) a.told over h.asked));
    }

-- memory lacked
pub closing_lacked : {C I : Type 0} (s : Space C I) (a b : State C I) (c : C) (n : ℕ) → IsAnswer s a (Found c n)
    → IsAsked {T = C} s (Low (Some (n - 1)) (length a.kept)) asked.NoMemory a b → IsWholeAnswer s b NoMemory
closing_lacked {C} s a b c n h w = record {
  means = tt;
  means_on_kept = tt;
  kept = subst (λ v. IsKept s v.kept) (sym w.no_memory) h.kept;
  budget = w.budget;
  spent = λ z. absurd z;
  asked = if_any b.told;
}
  where
    if_any : (t : Option (List (Told C))) → IfSome t (λ ts. Unit {0})
    if_any None = tt
    if_any (Some ts) = tt

-- the closing question isn't answered by a choice
pub closing_finds_none : {C I : Type 0} (s : Space C I) (a : State C I) (c d : C) (n : ℕ) → IsAnswer s a (Found c n) → 0 < n → IsLow s (Some (n - 1)) a.kept d → ⊥
closing_finds_none s a c d n h some low = h.means_on_kept.1.least d low.choice (let w = low.within in omega arith) low.agrees
