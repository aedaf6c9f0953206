-- What a word's bits and its number say of one another.
use Rattle.std.proofs.Common.{◌≡◌, ℕ, ◌<◌, ◌+◌, ◌*◌, ◌-◌, ◌^◌, Bool, true, false, List, [], ◌∷◌, length, map, subst, refl, ap, arith}
use Rattle.std.proofs.lemmas.List.{length-map}
use Rattle.std.specs.Prelude.{ℤ, pos, ◌+ℤ◌}
use Rattle.std.proofs.lemmas.Int.{ints}
use Rattle.bit_words.specs.Words.{fits, int_of, nat_of, is_within, bit_value}
use Rattle.bit_words.proofs.Integers.{parts, within}

fits_by : (p low : ℕ) (top : Bool) (z : ℤ) → low < p → z +ℤ pos (p * bit_value top) ≡ pos low → is_within p z ≡ true
fits_by p low true z h e = within p z low (omega (arith, ints)) (omega arith)
fits_by p low false z h e = within p z (low + p) (omega (arith, ints)) (omega arith)

pub word_fits : (word : List Bool) → 0 < length word → fits (length word) (int_of word) ≡ true
word_fits word some =
    let n : ℕ = length word - 1 in
    let r = parts word n (omega arith) in
    fits_by (2 ^ n) r.low r.top (int_of word) r.below r.signed

pub number_decides_bits : (v w : List Bool) → length v ≡ length w → nat_of v ≡ nat_of w → v ≡ w
number_decides_bits [] [] l e = refl
number_decides_bits [] (c ∷ w) l e = absurd (omega arith)
number_decides_bits (b ∷ v) [] l e = absurd (omega arith)
number_decides_bits (true ∷ v) (true ∷ w) l e = ap (λ u. true ∷ u) (number_decides_bits v w (omega arith) (omega arith))
number_decides_bits (true ∷ v) (false ∷ w) l e = absurd (omega arith)
number_decides_bits (false ∷ v) (true ∷ w) l e = absurd (omega arith)
number_decides_bits (false ∷ v) (false ∷ w) l e = ap (λ u. false ∷ u) (number_decides_bits v w (omega arith) (omega arith))

same_nat : (p low low' : ℕ) (top top' : Bool) (z : ℤ) → low < p → low' < p → z +ℤ pos (p * bit_value top) ≡ pos low → z +ℤ pos (p * bit_value top') ≡ pos low'
    → low + p * bit_value top ≡ low' + p * bit_value top'
same_nat p low low' true true z h k e f = omega (arith, ints)
same_nat p low low' true false z h k e f = absurd (omega (arith, ints))
same_nat p low low' false true z h k e f = absurd (omega (arith, ints))
same_nat p low low' false false z h k e f = omega (arith, ints)

pub number_decides_word : (v w : List Bool) → length v ≡ length w → int_of v ≡ int_of w → v ≡ w
number_decides_word [] [] l e = refl
number_decides_word [] (c ∷ w) l e = absurd (omega arith)
number_decides_word (b ∷ v) w l e =
    let n : ℕ = length v in
    let r = parts (b ∷ v) n refl in
    let s = parts w n (omega arith) in
    let whole : int_of (b ∷ v) +ℤ pos (2 ^ n * bit_value s.top) ≡ pos s.low = rw e s.signed in
    let same = same_nat (2 ^ n) r.low s.low r.top s.top (int_of (b ∷ v)) r.below s.below r.signed whole in
    number_decides_bits (b ∷ v) w l (rw (r.unsigned, s.unsigned) same)

-- the same of what a word reads as
pub read_fits : {B : Type 0} (f : B → Bool) (w : List B) (n : ℕ) → length w ≡ n → 0 < n → is_within (2 ^ (n - 1)) (int_of (map f w)) ≡ true
read_fits f w n e some =
    let size : length (map f w) ≡ n = simp length-map e in
    subst (λ (k : ℕ). is_within (2 ^ (k - 1)) (int_of (map f w)) ≡ true) size (word_fits (map f w) (omega arith))
