-- The inputs that are kept.
use Rattle.std.specs.Prelude.{◌≡◌, ◌≢◌, ℕ, zero, suc, ◌<◌, ◌≤◌, List, [], ◌∷◌, ◌++◌, length, take, slice_get, slice_index_or, Some, ◌⊎◌, refl}
use Rattle.std.proofs.Common.{sym, ◌∙◌, ap, subst, inl, inr, arith}
use Rattle.std.proofs.lemmas.List.{take-append-le, take_all}
use Rattle.std.proofs.lemmas.List.Elements.{All-contains, All-nil, All-push}
use Rattle.std.proofs.lemmas.List.Quantifiers.{all_pairs_push}
use Rattle.std.proofs.lemmas.Option.{slice_get_within}
use Rattle.cegis_loop.specs.Space.{Space, IsInput, AgreesOn, IsFail}
use Rattle.cegis_loop.specs.Answers.{IsKept, IsRefuted}
use Rattle.cegis_loop.proofs.Few.{few}

-- a place of a list with one more element
get_push_cases : {X : Type 0} (xs : List X) (y x : X) (k : ℕ) → slice_get (xs ++ y ∷ []) k ≡ Some x → (slice_get xs k ≡ Some x) ⊎ ((k ≡ length xs) × (y ≡ x))
get_push_cases [] y x zero e = inr (refl, cc)
get_push_cases [] y x (suc k) e = cc
get_push_cases (z ∷ xs) y x zero e = inl e
get_push_cases (z ∷ xs) y x (suc k) e = elim (get_push_cases xs y x k e) [ inl h ↦ inl h | inr h ↦ inr (ap suc h.0, h.1) ]

-- each input but the first refutes a choice
abbrev AreRefuting : {C I : Type 0} → Space C I → List I → Type 0
AreRefuting {C} {I} s xs = (k : ℕ) (x : I) → 0 < k → slice_get xs k ≡ Some x → (c : C) × IsRefuted s (take k xs) x c

refuting_more : {C I : Type 0} (s : Space C I) (xs : List I) (x : I) (c : C) → AreRefuting s xs → IsRefuted s xs x c → AreRefuting s (xs ++ x ∷ [])
refuting_more {C} s xs x c h r = λ k y above at. elim (get_push_cases xs x y k at) [
  | inl w ↦ (let within = slice_get_within xs k y w in subst (λ v. (b : C) × IsRefuted s v y b) (sym (take-append-le k xs (x ∷ []) (omega arith))) (h k y above w))
  | inr w ↦ (
      let P : ℕ → Type 0 = λ j. (b : C) × IsRefuted s (take j (xs ++ x ∷ [])) y b in
      let whole = take-append-le (length xs) xs (x ∷ []) (omega arith) ∙ take_all (length xs) xs (omega arith) in
      subst P (sym w.0) (subst (λ v. (b : C) × IsRefuted s v y b) (sym whole) (c, subst (λ v. IsRefuted s xs v c) w.1 r))
      )
]

-- one input more, on which a choice fails
pub kept_more : {C I : Type 0} (s : Space C I) (xs : List I) (c : C) (x : I) → IsKept s xs → s.is_choice c → AgreesOn s xs c → IsFail s c x → IsKept s (xs ++ x ∷ [])
kept_more s xs c x k choice agrees f = record {
  inputs = All-push (IsInput s) xs x k.inputs f.input;
  new = all_pairs_push (λ y z. y ≢ z) xs x k.new (λ i d w q. f.fails (subst (s.agrees c) q (agrees i d w)));
  refuting = refuting_more s xs x c k.refuting (record { choice = choice; agrees = agrees; fails = f.fails });
}

-- no input yet
pub kept_none : {C I : Type 0} (s : Space C I) → IsKept s []
kept_none s = record {
  inputs = All-nil (IsInput s);
  new = λ i j d p w. absurd (omega arith);
  refuting = λ k x above at. cc;
}

-- the first input
pub kept_first : {C I : Type 0} (s : Space C I) (x : I) → IsInput s x → IsKept s (x ∷ [])
kept_first s x m = record {
  inputs = All-push (IsInput s) [] x (All-nil (IsInput s)) m;
  new = λ i j d p w. absurd (omega arith);
  refuting = λ k y above at. let w = slice_get_within (x ∷ []) k y at in absurd (omega arith);
}

-- a choice that agrees on all inputs agrees on the kept ones
pub agrees_on_kept : {C I : Type 0} (s : Space C I) (xs : List I) (c : C) → IsKept s xs → AgreesOn s s.inputs c → AgreesOn s xs c
agrees_on_kept s xs c k all = λ i d w. All-contains (s.agrees c) s.inputs (slice_index_or xs i d) all (k.inputs i d w)

pub few_kept : {C I : Type 0} (s : Space C I) (xs : List I) → IsKept s xs → length xs ≤ length s.inputs
few_kept s xs k = few xs s.inputs k.new k.inputs
