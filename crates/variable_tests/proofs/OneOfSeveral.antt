-- One value of several, with its parameter.
use Rattle.std.proofs.Common.{◌≡◌, ℕ, zero, suc, Bool, true, List, [], ◌∷◌, Some, map, subst}
use Rattle.std.specs.Prelude.{slice_get}
use Rattle.std.specs.List.{list_all}
use Rattle.std.proofs.lemmas.Bool.{and_parts}
use Rattle.mpy_tree.specs.declared.limits.Limits.{Limits}
use Rattle.bounds_reader.specs.declared.params.Param.{Param}
use Rattle.sym_values.specs.declared.value.SymValue.{SymValue}
use Rattle.sym_values.specs.Forms.{form_for, form_of, forms_of}
use Rattle.input_space.specs.Inputs.{param_type}

-- its form
pub form_at : {B : Type 0} (l : Limits) (xs : List (SymValue B)) (ps : List Param) (i : ℕ)
    (x : SymValue B) (p : Param) → forms_of xs ≡ map (form_for l) (map param_type ps)
    → slice_get xs i ≡ Some x → slice_get ps i ≡ Some p → form_of x ≡ form_for l (param_type p)
form_at l [] ps i x p e at there = absurd cc
form_at l (a ∷ xs) [] i x p e at there = absurd cc
form_at l (a ∷ xs) (q ∷ ps) zero x p e at there = cc
form_at l (a ∷ xs) (q ∷ ps) (suc i) x p e at there =
    let tail : forms_of xs ≡ map (form_for l) (map param_type ps) = cc in
    form_at l xs ps i x p tail at there

-- what holds of all of them
pub tested_at : {A : Type 0} (test : A → Bool) (xs : List A) (i : ℕ) (x : A)
    → list_all test xs ≡ true → slice_get xs i ≡ Some x → test x ≡ true
tested_at test [] i x h e = absurd cc
tested_at test (y ∷ xs) zero x h e =
    let same : y ≡ x = cc in
    subst (λ z. test z ≡ true) same (and_parts (test y) (list_all test xs) h).0
tested_at test (y ∷ xs) (suc i) x h e =
    tested_at test xs i x (and_parts (test y) (list_all test xs) h).1 e
