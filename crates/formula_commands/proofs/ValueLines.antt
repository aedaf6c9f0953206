-- The literals of values, one after the other.
use Rattle.std.proofs.Common.{◌≡◌, ℕ, suc, ◌+◌, List, [], ◌∷◌, ◌++◌, length, sym, ap, ◌∙◌, arith}
use Rattle.std.proofs.lemmas.List.{length-take-le}
use Rattle.std.proofs.lemmas.Option.{slice_get_within}
use Rattle.std.specs.Prelude.{Bool, take, slice_get, Some}
use Rattle.clause_base.specs.declared.lit.Lit.{Lit}
use Rattle.log_check.proofs.StepLaws.{take_get}
use Rattle.formula_commands.specs.Texts.{value_literals}

abbrev lit : ℕ → Bool → Lit
lit var positive = record { var = var; positive = positive }

value_push : (n : ℕ) (vs : List Bool) (v : Bool) → value_literals n (vs ++ v ∷ []) ≡ value_literals n vs ++ lit (n + length vs) v ∷ []
value_push n [] v = (let e : n ≡ n + 0 = omega arith in ap (λ m. lit m v ∷ []) e)
value_push n (u ∷ us) v =
    let e : suc n + length us ≡ n + suc (length us) = omega arith in
    ap (λ ls. lit n u ∷ ls) (value_push (suc n) us v) ∙ ap (λ m. lit n u ∷ (value_literals (suc n) us ++ lit m v ∷ [])) e

-- one value more
pub values_more : (vs : List Bool) (i : ℕ) (v : Bool) (lits more : List Lit) → slice_get vs i ≡ Some v → lits ≡ value_literals 1 (take i vs) → more ≡ lits ++ lit (i + 1) v ∷ []
    → more ≡ value_literals 1 (take (i + 1) vs)
values_more vs i v lits more at before pushed =
    let within = slice_get_within vs i v at in
    let count : length (take i vs) ≡ i = length-take-le i vs (omega (arith, within)) in
    let place : 1 + length (take i vs) ≡ i + 1 = omega (arith, count) in
    pushed ∙ ap (λ ls. ls ++ lit (i + 1) v ∷ []) before
    ∙ sym (ap (value_literals 1) (take_get vs i v at) ∙ value_push 1 (take i vs) v ∙ ap (λ m. value_literals 1 (take i vs) ++ lit m v ∷ []) place)
