-- Where two lists differ.
use Rattle.std.proofs.Common.{◌≡◌, ◌≢◌, ℕ, zero, suc, ◌<◌, ◌≤◌, ◌+◌, List, [], ◌∷◌, ◌++◌, length, take, Some, None, slice_get, sym, ap, subst, ◌∙◌, arith, inl, inr, min}
use Rattle.std.proofs.Math.Nat.{min-eq_left, min-eq_right}
use Rattle.std.proofs.lemmas.Bool.{cases_lt}
use Rattle.std.proofs.lemmas.List.{take_all}
use Rattle.std.proofs.lemmas.Option.{slice_get_past}
use Rattle.clause_base.specs.declared.formula.Formula.{Formula}
use Rattle.certificate_judge.specs.Places.{DifferAt}
use Rattle.log_check.proofs.StepLaws.{take_get}

-- they agree so far and in the next place
pub more_same : {X : Type 0} (xs ys : List X) (i : ℕ) (x y : X) → slice_get xs i ≡ Some x → slice_get ys i ≡ Some y → x ≡ y → take i xs ≡ take i ys → take (i + 1) xs ≡ take (i + 1) ys
more_same xs ys i x y p q e same =
    take_get xs i x p ∙ ap (λ zs. zs ++ x ∷ []) same ∙ ap (λ z. take i ys ++ z ∷ []) e ∙ sym (take_get ys i y q)

pub all_same : {X : Type 0} (xs ys : List X) (n : ℕ) → length xs ≤ n → length ys ≤ n → take n xs ≡ take n ys → xs ≡ ys
all_same xs ys n p q e = sym (take_all n xs p) ∙ e ∙ take_all n ys q

-- another clause at a place
pub differ_here : (f g : Formula) (i : ℕ) → take i f.clauses ≡ take i g.clauses → slice_get f.clauses i ≢ slice_get g.clauses i → DifferAt f g (i + 1)
differ_here f g i same other = let e : suc i ≡ i + 1 = omega arith in subst (DifferAt f g) e (same, other)

-- one list ends
pub ends_here : {X : Type 0} (xs ys : List X) (i : ℕ) → length xs ≤ i → i < length ys → slice_get xs i ≢ slice_get ys i
ends_here xs ys i p q e =
    let none = slice_get_past xs i p in
    past ys i (sym e ∙ none) q
  where
    past : {X : Type 0} (ys : List X) (i : ℕ) → slice_get ys i ≡ None → i < length ys → ⊥
    past [] i n w = omega arith
    past (y ∷ ys) zero n w = cc
    past (y ∷ ys) (suc i) n w = past ys i n (omega (arith, w))

-- all clauses of the shorter one are shared
pub lengths_differ : (f g : Formula) (i : ℕ) → i ≡ min (length f.clauses) (length g.clauses) → length f.clauses ≢ length g.clauses
    → take i f.clauses ≡ take i g.clauses → DifferAt f g (i + 1)
lengths_differ f g i is other same = elim (cases_lt (length f.clauses) (length g.clauses)) [
  | inl less ↦ (
      let least : min (length f.clauses) (length g.clauses) ≡ length f.clauses = min-eq_left (omega (arith, less)) in
      differ_here f g i same (ends_here f.clauses g.clauses i (omega (arith, is, least)) (omega (arith, is, least, less))))
  | inr high ↦ (
      let least : min (length f.clauses) (length g.clauses) ≡ length g.clauses = min-eq_right high in
      let less : length g.clauses < length f.clauses = elim (cases_lt (length g.clauses) (length f.clauses)) [
        | inl lower ↦ lower
        | inr higher ↦ absurd (other (omega (arith, high, higher)))
      ] in
      differ_here f g i same (λ e. ends_here g.clauses f.clauses i (omega (arith, is, least)) (omega (arith, is, least, less)) (sym e)))
]

-- formulas that differ at a place aren't one
pub differ_not_same : (f g : Formula) (i : ℕ) → DifferAt f g i → g ≢ f
differ_not_same f g zero h e = h.1 (ap (λ (x : Formula). x.vars) (sym e))
differ_not_same f g (suc i) h e = h.1 (ap (λ (x : Formula). slice_get x.clauses i) (sym e))
