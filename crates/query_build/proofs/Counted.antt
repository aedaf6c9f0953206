-- The bit of a counter that says whether a number is above a bound.
use Rattle.std.proofs.Common.{◌≡◌, ◌∙◌, ℕ, ◌+◌, Bool, List, [], ◌∷◌, ◌++◌, length, map}
use Rattle.std.proofs.Common.{refl, sym, ap, Some}
use Rattle.std.specs.Prelude.{nat_lt, option_map, slice_get}
use Rattle.std.proofs.lemmas.Option.{slice_get-map}
use Rattle.sym_cost.specs.Notations.{counter}
use Rattle.sym_cost.proofs.Unary.{counter_more, length_counter}

last_at : {A : Type 0} (xs : List A) (x : A) → slice_get (xs ++ x ∷ []) (length xs) ≡ Some x
last_at [] x = refl
last_at (y ∷ xs) x = last_at xs x

pub above : {B : Type 0} (rd : B → Bool) (w : List B) (most n : ℕ) (b : B)
    → map rd w ≡ counter (most + 1) n → slice_get w most ≡ Some b → rd b ≡ nat_lt most n
above rd w most n b e at =
    let read : slice_get (map rd w) most ≡ Some (rd b) =
    slice_get-map rd w most ∙ ap (option_map rd) at in
    let stands : slice_get (counter (most + 1) n) most ≡ Some (nat_lt most n) =
    ap (λ bits. slice_get bits most) (sym (counter_more most n))
    ∙ ap (λ i. slice_get (counter most n ++ nat_lt most n ∷ []) i) (sym (length_counter most n))
    ∙ last_at (counter most n) (nat_lt most n) in
    let one : Some (rd b) ≡ Some (nat_lt most n) =
    sym read ∙ ap (λ bits. slice_get bits most) e ∙ stands in
    cc
