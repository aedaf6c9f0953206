-- The blocks of a program, one after the other.
use Rattle.std.specs.Prelude.{◌≡◌, ℕ, suc, ◌+◌, List, ◌++◌, refl, codes, ℤ}
use Rattle.std.specs.Fmt.{decimal, signed_decimal}
use Rattle.std.proofs.Common.{sym, ◌∙◌, ap, arith}
use Rattle.std.proofs.lemmas.List.{append_assoc, append-nil}
use Rattle.sample_maker.specs.Samples.{block_text, blocks_text}

pub no_block : (front : List ℕ) (operator : ℕ → List ℕ) (number : ℕ) → front ≡ front ++ blocks_text operator number 0
unfolding blocks_text
no_block front operator number = sym (append-nil front)

one_more : (operator : ℕ → List ℕ) (number k : ℕ) → blocks_text operator number (suc k) ≡ blocks_text operator number k ++ block_text (operator k) number k
unfolding blocks_text
one_more operator number k = refl

-- a block more stands behind the first lines
pub block_more : (front text next : List ℕ) (operator : ℕ → List ℕ) (number k : ℕ) → text ≡ front ++ blocks_text operator number k
    → next ≡ text ++ block_text (operator k) number k
    → next ≡ front ++ blocks_text operator number (k + 1)
block_more front text next operator number k so_far more =
    let block = block_text (operator k) number k in
    let step : k + 1 ≡ suc k = omega arith in
    more ∙ ap (λ t. t ++ block) so_far ∙ append_assoc front (blocks_text operator number k) block
    ∙ ap (λ t. front ++ t) (sym (one_more operator number k)) ∙ ap (λ j. front ++ blocks_text operator number j) (sym step)

-- the same pieces, grouped from the right as a format joins them
pub regrouped : (a b c : List ℕ)
    → codes "    if x " ++ (a ++ (codes " " ++ (b ++ (codes ":\n        t = t + " ++ (c ++ codes "\n")))))
    ≡ codes "    if x " ++ a ++ codes " " ++ b ++ codes ":\n" ++ codes "        t = t + " ++ c ++ codes "\n"
regrouped a b c = simp append_assoc refl

pub lines_of : (operator : List ℕ) {y z : ℤ} {m n : ℕ} → y ≡ z → m ≡ n
    → codes "    if x " ++ operator ++ codes " " ++ signed_decimal y ++ codes ":\n" ++ codes "        t = t + " ++ decimal m ++ codes "\n"
    ≡ codes "    if x " ++ operator ++ codes " " ++ signed_decimal z ++ codes ":\n" ++ codes "        t = t + " ++ decimal n ++ codes "\n"
lines_of operator {y} {z} {m} {n} limit amount =
    let text : ℤ → ℕ → List ℕ = λ w k. codes "    if x " ++ operator ++ codes " " ++ signed_decimal w ++ codes ":\n" ++ codes "        t = t + " ++ decimal k ++ codes "\n" in
    ap (λ w. text w m) limit ∙ ap (text z) amount
