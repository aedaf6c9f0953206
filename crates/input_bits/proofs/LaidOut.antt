-- Truth values in the places of a value's bits, and what they spell.
use Rattle.std.proofs.Common.{◌≡◌, ℕ, zero, suc, ◌+◌, ◌*◌, Bool, true, false, ◌&&◌, List, [], ◌∷◌, ◌++◌, length, map, take, refl, sym, ap, ◌∙◌, arith, Some, None}
use Rattle.std.specs.Prelude.{ℤ, option_map, nat_le, if◌then◌else◌}
use Rattle.std.specs.List.{list_all}
use Rattle.std.proofs.lemmas.List.{length-map}
use Rattle.mpy_tree.specs.Options.{◌>>=◌}
use Rattle.mpy_tree.specs.declared.limits.Limits.{Limits}
use Rattle.mpy_tree.specs.declared.typing.Ty.{Ty}
use Rattle.mpy_tree.specs.declared.typing.Ty.TheVariants as ty
use Rattle.mpy_tree.specs.declared.value.Value.TheVariants as value
use Rattle.bit_words.specs.Later.{values_from}
use Rattle.bit_words.specs.Words.{nat_of, int_of}
use Rattle.sym_values.specs.Reading.{spelled}
use Rattle.input_space.specs.ValueBits.{all_bits_for, bits_for, printable, value_at, words_from}
use Rattle.input_bits.specs.Layout.{all_laid_out, decoded, laid_out}

-- one word more
pub words_from_more : (vs : List Bool) (start width n : ℕ) → words_from vs start width (n + 1) ≡ words_from vs start width n ++ values_from vs (start + n * width) width ∷ []
words_from_more vs start width zero =
    let e : start + 0 * width ≡ start = omega arith in ap (λ k. values_from vs k width ∷ []) (sym e)
words_from_more vs start width (suc n) =
    let rest : words_from vs (start + width) width (n + 1) ≡ words_from vs (start + width) width n ++ values_from vs (start + width + n * width) width ∷ [] = words_from_more vs (start + width) width n in
    let place : start + width + n * width ≡ start + suc n * width = omega arith in
    let step : suc n + 1 ≡ suc (n + 1) = omega arith in
    rw step (ap (λ w. values_from vs start width ∷ w) (rest ∙ ap (λ k. words_from vs (start + width) width n ++ values_from vs k width ∷ []) place))

pub length-words_from : (vs : List Bool) (start width n : ℕ) → length (words_from vs start width n) ≡ n
length-words_from vs start width zero = refl
length-words_from vs start width (suc n) = ap suc (length-words_from vs (start + width) width n)

list_first : (b : Bool) (xs : List ℤ) → option_map value.List (if b then Some xs else None) ≡ (if b && true then Some (value.List xs) else None)
list_first true xs = refl
list_first false xs = refl

text_first : (b c : Bool) (xs : List ℕ) → c ≡ list_all (λ d. nat_le 32 d && nat_le d 126) xs
    → option_map value.Text ((if b then Some xs else None) >>= printable) ≡ (if b && c then Some (value.Text xs) else None)
text_first false c xs e = refl
text_first true true xs e = rw (← e) refl
text_first true false xs e = rw (← e) refl

-- what decodes is what the laid out truth values spell, where that is a value
pub decoded_at : (l : Limits) (t : Ty) (vs : List Bool) (start : ℕ) → decoded (spelled (laid_out l t vs start)) ≡ value_at l t vs start
decoded_at l ty.Int vs start = refl
decoded_at l ty.Bool vs start = refl
decoded_at l ty.List vs start =
    let ws = words_from vs (start + 5) l.width l.cap in
    let n = nat_of (values_from vs start 5) in
    let many : length (map int_of ws) ≡ length ws = length-map ws int_of in
    sym (ap (λ k. option_map value.List (if nat_le n k then Some (take n (map int_of ws)) else None)) many ∙ list_first (nat_le n (length ws)) (take n (map int_of ws)))
decoded_at l ty.Text vs start =
    let ws = words_from vs (start + 5) 7 l.cap in
    let n = nat_of (values_from vs start 5) in
    let many : length (map nat_of ws) ≡ length ws = length-map ws nat_of in
    sym (ap (λ k. option_map value.Text ((if nat_le n k then Some (take n (map nat_of ws)) else None) >>= printable)) many ∙ text_first (nat_le n (length ws)) _ (take n (map nat_of ws)) refl)

-- one value more
pub all_bits_more : (l : Limits) (ts : List Ty) (t : Ty) → all_bits_for l (ts ++ t ∷ []) ≡ all_bits_for l ts + bits_for l t
all_bits_more l [] t = omega arith
all_bits_more l (s ∷ ts) t =
    let rest = all_bits_more l ts t in
    omega (arith, rest)

pub all_laid_more : (l : Limits) (ts : List Ty) (t : Ty) (vs : List Bool) (start : ℕ)
    → all_laid_out l (ts ++ t ∷ []) vs start ≡ all_laid_out l ts vs start ++ laid_out l t vs (start + all_bits_for l ts) ∷ []
all_laid_more l [] t vs start = let e : start + 0 ≡ start = omega arith in ap (λ k. laid_out l t vs k ∷ []) (sym e)
all_laid_more l (s ∷ ts) t vs start =
    let rest = all_laid_more l ts t vs (start + bits_for l s) in
    let place : start + bits_for l s + all_bits_for l ts ≡ start + all_bits_for l (s ∷ ts) = omega arith in
    ap (λ xs. laid_out l s vs start ∷ xs) (rest ∙ ap (λ k. all_laid_out l ts vs (start + bits_for l s) ++ laid_out l t vs k ∷ []) place)
