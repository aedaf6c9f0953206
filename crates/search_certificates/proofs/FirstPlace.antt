-- The first session that passes a test.
use Rattle.std.proofs.Common.{◌≡◌, ℕ, zero, suc, ◌+◌, ◌<◌, inl, inr, Bool, true, if◌then◌else◌, List, [], ◌∷◌, length, take, drop, Some, None, refl, ap, ◌∙◌, arith, subst}
use Rattle.std.specs.List.{Contains}
use Rattle.std.proofs.lemmas.Bool.{cases_Bool}
use Rattle.input_space.specs.declared.session.Session.{Session}
use Rattle.input_space.proofs.Elements.{first_contained, later_contained}
use Rattle.search_certificates.specs.Places.{first_place}

-- a session at a place that passes a test
pub record IsAt (test : Session → Bool) (xs : List Session) (place : ℕ) : Type 0 where
  pub one : Session
  pub among : Contains xs one
  pub passes : test one ≡ true
  pub below : place < length xs
  pub alone : take 1 (drop place xs) ≡ one ∷ []

later : (test : Session → Bool) (x : Session) (xs : List Session) (place : ℕ) → IsAt test xs place → IsAt test (x ∷ xs) (suc place)
later test x xs place h = record {
  one = h.one;
  among = later_contained x h.one xs h.among;
  passes = h.passes;
  below = (let b = h.below in omega arith);
  alone = h.alone;
}

pub first_at : (test : Session → Bool) (i p : ℕ) (xs : List Session) → first_place test i xs ≡ Some p → (q : ℕ) × (p ≡ i + q) × IsAt test xs q
first_at test i p [] e = absurd cc
first_at test i p (x ∷ xs) e = elim (cases_Bool (test x)) [
  | inl holds ↦ (
      let here : Some i ≡ Some p = subst (λ b. (if b then Some i else first_place test (i + 1) xs) ≡ Some p) holds e in
      let same : i ≡ p = cc in
      (0, omega arith, record { one = x; among = first_contained x xs; passes = holds; below = omega arith; alone = refl }))
  | inr fails ↦ (
      let on : first_place test (i + 1) xs ≡ Some p = subst (λ b. (if b then Some i else first_place test (i + 1) xs) ≡ Some p) fails e in
      let r = first_at test (i + 1) p xs on in
      let at = r.1 in
      (suc r.0, omega arith, later test x xs r.0 r.2))
]

pub none_at : (test : Session → Bool) (i : ℕ) (xs : List Session) → first_place test i xs ≡ None → (x : Session) → Contains xs x → test x ≡ true → ⊥
none_at test i [] e x c h = (let b = c.1 in omega arith)
none_at test i (y ∷ ys) e x (zero, b, f) h =
    let yes : test y ≡ true = ap test f ∙ h in
    let here : Some i ≡ None = subst (λ b. (if b then Some i else first_place test (i + 1) ys) ≡ None) yes e in
    absurd cc
none_at test i (y ∷ ys) e x (suc k, b, f) h = elim (cases_Bool (test y)) [
  | inl holds ↦ (let here : Some i ≡ None = subst (λ b. (if b then Some i else first_place test (i + 1) ys) ≡ None) holds e in absurd cc)
  | inr fails ↦
      none_at test (i + 1) ys (subst (λ b. (if b then Some i else first_place test (i + 1) ys) ≡ None) fails e) x (k, omega (arith, b), f) h
]
