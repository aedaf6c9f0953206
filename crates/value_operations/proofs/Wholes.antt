-- The numbers that values are.
use Rattle.std.proofs.Common.{◌≡◌, ℕ, ◌+◌, ◌<◌, List, [], ◌∷◌, ◌++◌, length, get_or, drop, Ok, Err, ℤ, refl, sym, ap, ◌∙◌, append_assoc}
use Rattle.std.proofs.lemmas.List.{drop_more}
use Rattle.std.specs.declared.result.Result.{Result}
use Rattle.mpy_tree.specs.declared.value.Value.{Value}
use Rattle.mpy_tree.specs.declared.value.Value.TheVariants.{Int}
use Rattle.mpy_tree.specs.declared.outcome.Halt.{Halt}
use Rattle.mpy_tree.specs.Values.{◌>>=◌}
use Rattle.mpy_tree.specs.Expressions.{wholes}

with_head : (r : Result (List ℤ) Halt) (xs : List ℤ) (z : ℤ) → ((r >>= λ zs. Ok (z ∷ zs)) >>= λ ws. Ok (xs ++ ws)) ≡ (r >>= λ zs. Ok ((xs ++ z ∷ []) ++ zs))
with_head (Ok zs) xs z = ap Ok (sym (append_assoc xs (z ∷ []) zs))
with_head (Err e) xs z = refl

-- the number of one more value
pub wholes_more : (vs : List Value) (i : ℕ) (v : Value) (z : ℤ) (xs ys : List ℤ) → i < length vs → v ≡ get_or vs i v → v ≡ Int z → ys ≡ xs ++ z ∷ [] → wholes vs ≡ (wholes (drop i vs) >>= λ zs. Ok (xs ++ zs)) → wholes vs ≡ (wholes (drop (i + 1) vs) >>= λ zs. Ok (ys ++ zs))
wholes_more vs i v z xs ys h at is more so_far =
    so_far
    ∙ ap (λ (us : List Value). wholes us >>= λ zs. Ok (xs ++ zs)) (drop_more vs i v h ∙ ap (λ w. w ∷ drop (i + 1) vs) (sym at ∙ is))
    ∙ with_head (wholes (drop (i + 1) vs)) xs z
    ∙ ap (λ (us : List ℤ). wholes (drop (i + 1) vs) >>= λ zs. Ok (us ++ zs)) (sym more)
