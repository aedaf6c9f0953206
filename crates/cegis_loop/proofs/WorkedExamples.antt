-- A small search with its closing question, and lists of questions that are none.
use Rattle.std.specs.Prelude.{◌≡◌, ℕ, ◌<◌, ◌≤◌, nat_lt, if◌then◌else◌, List, [], ◌∷◌, ◌++◌, Some, None, All, refl}
use Rattle.std.proofs.Common.{arith}
use Rattle.std.proofs.lemmas.List.Elements.{All-nil, All-push}
use Rattle.cegis_loop.specs.Space.{Space}
use Rattle.cegis_loop.specs.State.{First, Low, Fail, Told, Refuted, Open}
use Rattle.cegis_loop.specs.Order.{first_open, low_refuted, low_open, fail_refuted, fail_open, End, Settled, IsSearch, IsWholeSearch, closed}
use Rattle.cegis_loop.specs.OrderLaws.{last_ruled}

-- the inputs 0, 1 and 2, and the choices 0, 1 and 2 at the costs 0, 1 and 1, each of which agrees on
-- the inputs up to itself
abbrev small : Space ℕ ℕ
small = record {
  is_choice = λ c. c < 3;
  cost = λ c. if nat_lt 0 c then 1 else 0;
  most_cost = 1;
  inputs = 0 ∷ 1 ∷ 2 ∷ [];
  agrees = λ c x. x ≤ c;
  budget = 9;
}

-- the choices 0 and 1 fail, and when the choice 2 is found no cost was ruled out over all three inputs
abbrev asked : List (Told ℕ)
asked =
    Open First ∷ Open (Low (Some 0) 1) ∷ Open (Fail 0) ∷ Refuted (Low (Some 0) 2) ∷ Open (Low None 2) ∷ Open (Fail 1)
    ∷ Open (Low None 3) ∷ Refuted (Fail 2) ∷ []

up_to : (c x : ℕ) (xs : List ℕ) → All (λ y. y ≤ c) xs → x ≤ c → All (λ y. y ≤ c) (xs ++ x ∷ [])
up_to c x xs h below = All-push (λ y. y ≤ c) xs x h below

searched : IsSearch small (0 ∷ 1 ∷ 2 ∷ []) asked (Settled 2 2)
searched =
    let zero_on = up_to 0 0 [] (All-nil (λ y. y ≤ 0)) (omega arith) in
    let one_on = up_to 1 1 (0 ∷ []) (up_to 1 0 [] (All-nil (λ y. y ≤ 1)) (omega arith)) (omega arith) in
    let two_on = up_to 2 2 (0 ∷ 1 ∷ []) (up_to 2 1 (0 ∷ []) (up_to 2 0 [] (All-nil (λ y. y ≤ 2)) (omega arith)) (omega arith)) (omega arith) in
    first_open (0, omega arith, refl)
    (low_open refl (record { choice = omega arith; within = omega arith; agrees = zero_on })
    (fail_open (record { input = (1, omega arith, refl); fails = λ h. omega arith })
    (low_refuted refl
    (low_open refl (record { choice = omega arith; within = tt; agrees = one_on })
    (fail_open (record { input = (2, omega arith, refl); fails = λ h. omega arith })
    (low_open refl (record { choice = omega arith; within = tt; agrees = two_on })
    fail_refuted))))))

ruled : last_ruled 0 asked ≡ 2
ruled = refl

-- so the closing question is asked, whether a choice of cost 0 agrees on all three
whole : IsWholeSearch small (0 ∷ 1 ∷ 2 ∷ []) (asked ++ Refuted (Low (Some 0) 3) ∷ []) (Settled 2 3)
whole = closed (record { search = searched; costs = omega arith; fewer = omega arith }) refl refl

-- no search begins with a choice
no_fail_first : {end : End ℕ} → IsSearch small [] (Refuted (Fail 0) ∷ []) end → ⊥
no_fail_first h = elim h [ ]

-- behind the first input comes the bound 0, and not none
no_any_first : {end : End ℕ} → IsSearch small (0 ∷ []) (Open First ∷ Refuted (Low None 1) ∷ []) end → ⊥
no_any_first (first_open m h) = elim h [ ]
