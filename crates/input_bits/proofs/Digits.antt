-- Numbers that truth values spell, digit by digit.
use Rattle.std.proofs.Common.{◌≡◌, ◌∙◌, ℕ, suc, zero, ◌+◌, ◌*◌, ◌^◌, Bool, false, List}
use Rattle.std.proofs.Common.{[], ◌∷◌, ◌++◌, length, Some, ap, refl, arith}
use Rattle.std.specs.Prelude.{slice_get, slice_index_or}
use Rattle.bit_words.specs.Later.{values_from, values_from_more}
use Rattle.bit_words.specs.Words.{bit_value, nat_of}
use Rattle.bit_words.proofs.Naturals.{nat_push}

pub length-values_from : (vs : List Bool) (start n : ℕ) → length (values_from vs start n) ≡ n
length-values_from vs start zero = refl
length-values_from vs start (suc n) = ap suc (length-values_from vs (start + 1) n)

pub index_read : (vs : List Bool) (i : ℕ) (b : Bool) → slice_get vs i ≡ Some b → slice_index_or vs i false ≡ b
index_read [] i b e = absurd cc
index_read (x ∷ vs) zero b e = cc
index_read (x ∷ vs) (suc i) b e = index_read vs i b e

-- one digit more
pub digit_more : (vs : List Bool) (start i n : ℕ) (b : Bool) → slice_get vs (start + i) ≡ Some b → n ≡ nat_of (values_from vs start i)
    → n + 2 ^ i * bit_value b ≡ nat_of (values_from vs start (i + 1))
digit_more vs start i n b at h =
    let xs = values_from vs start i in
    let whole : values_from vs start (i + 1) ≡ xs ++ b ∷ [] = values_from_more vs start i ∙ ap (λ d. xs ++ d ∷ []) (index_read vs (start + i) b at) in
    let pushed : nat_of (values_from vs start (i + 1)) ≡ nat_of xs + 2 ^ length xs * bit_value b = ap nat_of whole ∙ nat_push xs b in
    let long : 2 ^ length xs * bit_value b ≡ 2 ^ i * bit_value b = ap (λ k. 2 ^ k * bit_value b) (length-values_from vs start i) in
    omega (arith, pushed, long, h)
