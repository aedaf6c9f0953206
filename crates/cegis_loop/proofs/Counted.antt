-- How many questions are asked.
use Rattle.std.specs.Prelude.{◌≡◌, ◌≢◌, ℕ, ◌+◌, ◌-◌, ◌*◌, ◌≤◌, List, [], ◌∷◌, ◌++◌, length, Option, Some, None, All, AllPairs, refl}
use Rattle.std.proofs.Common.{sym, ap, subst, inl, inr, arith}
use Rattle.std.proofs.lemmas.List.{append_assoc, append-nil, length-append}
use Rattle.std.proofs.lemmas.List.Elements.{All-nil, All-push}
use Rattle.std.proofs.lemmas.List.Quantifiers.{all_pairs_push}
use Rattle.cegis_loop.specs.Space.{Space, IsInput, AgreesOn, IsFail}
use Rattle.cegis_loop.specs.State.{Told}
use Rattle.cegis_loop.specs.Order.{Asks, first_refuted, first_open, first_left, low_refuted, any_refuted, low_open, low_left, fail_refuted, fail_open, fail_left, Due, DueFirst, DueLow, DueFail, End, bound_at, IsSearch, no_input, no_choice, settled, closed, left, closing_left}
use Rattle.cegis_loop.specs.OrderLaws.{FewQuestions}
use Rattle.cegis_loop.proofs.Few.{few}
use Rattle.cegis_loop.proofs.Steps.{bound_cases}

-- how many bounds are left from one on
abbrev bounds_left : ℕ → Option ℕ → ℕ
bounds_left most None = 0
bounds_left most (Some k) = most - (k + 1) + 1

bounds_next : (most k : ℕ) → bounds_left most (bound_at most (k + 1)) + 1 ≤ bounds_left most (Some k)
bounds_next most k = elim (bound_cases most (k + 1)) [
  | inl p ↦ subst (λ v. bounds_left most v + 1 ≤ bounds_left most (Some k)) (sym p.1) (let w = p.0 in omega arith)
  | inr p ↦ subst (λ v. bounds_left most v + 1 ≤ bounds_left most (Some k)) (sym p.1) (omega arith)
]

bounds_first : (most : ℕ) → bounds_left most (bound_at most 0) ≤ most
bounds_first most = elim (bound_cases most 0) [
  | inl p ↦ subst (λ v. bounds_left most v ≤ most) (sym p.1) (let w = p.0 in omega arith)
  | inr p ↦ subst (λ v. bounds_left most v ≤ most) (sym p.1) (omega arith)
]

-- at most so many questions follow
abbrev room : {C : Type 0} → ℕ → Due C → ℕ → ℕ
room most DueFirst later = 2 * later + most + 1
room most (DueLow bound) later = 2 * later + bounds_left most bound + 2
room most (DueFail bound c) later = 2 * later + bounds_left most bound + 1

counted : {C I : Type 0} {s : Space C I} {due : Due C} {ruled : ℕ} {before later : List I} {asked : List (Told C)} {end : End C}
    → Asks s due ruled before later asked end → length asked ≤ room s.most_cost due (length later)
counted first_refuted = omega arith
counted {s = s} (first_open m h) = let w = counted h in let b = bounds_first s.most_cost in omega arith
counted first_left = omega arith
counted {s = s} (low_refuted {k = k} e h) = let w = counted h in let b = bounds_next s.most_cost k in omega arith
counted (any_refuted e) = omega arith
counted (low_open e low h) = let w = counted h in omega arith
counted (low_left e) = omega arith
counted fail_refuted = omega arith
counted (fail_open f h) = let w = counted h in omega arith
counted fail_left = omega arith

abbrev AreDifferent : {C I : Type 0} → Space C I → List I → Type 0
AreDifferent s xs = AllPairs (λ x y. x ≢ y) xs × All (IsInput s) xs

-- the cases kept so far are different inputs, on which a choice that is tried agrees
abbrev AreNew : {C I : Type 0} → Space C I → Due C → List I → Type 0
AreNew s DueFirst xs = xs ≡ []
AreNew s (DueLow bound) xs = AreDifferent s xs
AreNew s (DueFail bound c) xs = AreDifferent s xs × AgreesOn s xs c

one_more : {C I : Type 0} (s : Space C I) (c : C) (xs : List I) (x : I) → AreDifferent s xs → AgreesOn s xs c → IsFail s c x → AreDifferent s (xs ++ x ∷ [])
one_more s c xs x h agrees f =
    (all_pairs_push (λ y z. y ≢ z) xs x h.0 (λ i d w q. f.fails (subst (s.agrees c) q (agrees i d w))), All-push (IsInput s) xs x h.1 f.input)

just_one : {C I : Type 0} (s : Space C I) (x : I) → IsInput s x → AreDifferent s (x ∷ [])
just_one s x m = (λ i j d p w. absurd (omega arith), All-push (IsInput s) [] x (All-nil (IsInput s)) m)

none_yet : {C I : Type 0} (s : Space C I) → AreDifferent s []
none_yet s = (λ i j d p w. absurd (omega arith), All-nil (IsInput s))

all_new : {C I : Type 0} {s : Space C I} {due : Due C} {ruled : ℕ} {before later : List I} {asked : List (Told C)} {end : End C}
    → Asks s due ruled before later asked end → AreNew s due before → AreDifferent s (before ++ later)
all_new {s = s} first_refuted n = none_yet s
all_new {s = s} (first_open {x = x} m h) n = all_new h (just_one s x m)
all_new {s = s} first_left n = none_yet s
all_new (low_refuted e h) n = all_new h n
all_new {s = s} {before = before} (any_refuted e) n = subst (AreDifferent s) (sym (append-nil before)) n
all_new (low_open e low h) n = all_new h (n, low.agrees)
all_new {s = s} {before = before} (low_left e) n = subst (AreDifferent s) (sym (append-nil before)) n
all_new {s = s} {before = before} fail_refuted n = subst (AreDifferent s) (sym (append-nil before)) n.0
all_new {s = s} {before = before} (fail_open {later = later} {c = c} {x = x} f h) n =
    subst (AreDifferent s) (append_assoc before (x ∷ []) later) (all_new h (one_more s c before x n.0 n.1 f))
all_new {s = s} {before = before} fail_left n = subst (AreDifferent s) (sym (append-nil before)) n.0

search_counted : {C I : Type 0} (s : Space C I) (kept : List I) (asked : List (Told C)) (end : End C) → IsSearch s kept asked end → length asked ≤ 2 * length s.inputs + s.most_cost + 1
search_counted s kept asked end h =
    let d : AreDifferent s kept = all_new h refl in
    let n : length kept ≤ length s.inputs = few kept s.inputs d.0 d.1 in
    let w = counted h in omega arith

-- the closing question is one more
pub few_questions : {C I : Type 0} (s : Space C I) → FewQuestions s
few_questions s kept asked end (no_input h) = let w = search_counted s kept asked end h in omega arith
few_questions s kept asked end (no_choice h) = let w = search_counted s kept asked end h in omega arith
few_questions s kept asked end (settled h x) = let w = search_counted s kept asked end h in omega arith
few_questions s kept asked end (closed {asked = part} h x q) = let w = search_counted s kept part _ h.search in omega (arith, simp length-append at (ap length q))
few_questions s kept asked end (left h) = let w = search_counted s kept asked end h in omega arith
few_questions s kept asked end (closing_left {asked = part} h x q) = let w = search_counted s kept part _ h.search in omega (arith, simp length-append at (ap length q))
