-- Truth values that stand in others from a place on.
use Rattle.std.proofs.Common.{◌≡◌, ℕ, suc, ◌+◌, Bool, false, List, [], ◌∷◌, ◌++◌, length, drop}
use Rattle.std.proofs.Common.{refl, sym, ap, ◌∙◌, subst, arith, append_assoc, length-append}
use Rattle.std.specs.Prelude.{slice_index_or}
use Rattle.std.proofs.lemmas.List.{get_or_at}
use Rattle.bit_words.specs.Later.{values_from}

abbrev pub Stands : List Bool → ℕ → List Bool → Type 0
Stands vs start ys = values_from vs start (length ys) ≡ ys

behind : (xs ys : List Bool) → Stands (xs ++ ys) (length xs) ys
behind xs [] = refl
behind xs (y ∷ ys) =
    let whole : (xs ++ y ∷ []) ++ ys ≡ xs ++ (y ∷ ys) = append_assoc xs (y ∷ []) ys in
    let place : length (xs ++ y ∷ []) ≡ length xs + 1 = length-append xs (y ∷ []) in
    let rest : values_from (xs ++ (y ∷ ys)) (length xs + 1) (length ys) ≡ ys =
    ap (λ v. values_from v (length xs + 1) (length ys)) (sym whole)
    ∙ ap (λ k. values_from ((xs ++ y ∷ []) ++ ys) k (length ys)) (sym place)
    ∙ behind (xs ++ y ∷ []) ys in
    let first : slice_index_or (xs ++ (y ∷ ys)) (length xs) false ≡ y =
    get_or_at xs y ys false (length xs) refl in
    λ i. first i ∷ rest i

pub whole_stands : (bits : List Bool) → Stands bits 0 bits
whole_stands bits = behind [] bits

-- parts stand where the whole does
pub parts_stand : (vs ys zs : List Bool) (start : ℕ) → Stands vs start (ys ++ zs)
    → Stands vs start ys × Stands vs (start + length ys) zs
parts_stand vs [] zs start h =
    let e : start ≡ start + 0 = omega arith in (refl, subst (λ k. Stands vs k zs) e h)
parts_stand vs (y ∷ ys) zs start h =
    let first : slice_index_or vs start false ≡ y = ap (λ w. slice_index_or w 0 false) h in
    let rest : values_from vs (start + 1) (length (ys ++ zs)) ≡ ys ++ zs = ap (drop 1) h in
    let r = parts_stand vs ys zs (start + 1) rest in
    let front : Stands vs (start + 1) ys = r.0 in
    let e : start + 1 + length ys ≡ start + suc (length ys) = omega arith in
    ((λ i. first i ∷ front i), subst (λ k. Stands vs k zs) e r.1)

-- what stands there is read, and the rest stands behind it
pub reads : (vs ys : List Bool) (start n : ℕ) → length ys ≡ n → Stands vs start ys
    → values_from vs start n ≡ ys
reads vs ys start n e h = ap (values_from vs start) (sym e) ∙ h

pub rest_stands : (vs ys zs : List Bool) (start n : ℕ) → length ys ≡ n
    → Stands vs start (ys ++ zs) → Stands vs (start + n) zs
rest_stands vs ys zs start n e h =
    subst (λ k. Stands vs (start + k) zs) e (parts_stand vs ys zs start h).1
