-- Numbers and lengths in ranges.
use Rattle.std.proofs.Common.{◌≡◌, ℕ, zero, suc, ◌+◌, ◌*◌, ◌^◌, ◌<◌, ◌≤◌, Bool, true, false, not, ◌&&◌, refl, arith, max}
use Rattle.std.specs.Prelude.{ℤ, pos, negsuc, nat_le, nat_lt, nat_eq}
use Rattle.std.specs.Int.Signed.{lt_z}
use Rattle.std.specs.Ordering.{int_eq}
use Rattle.std.proofs.Math.Pow.{pow_mono}
use Rattle.std.proofs.lemmas.Bool.{false≢true}
use Rattle.std.proofs.lemmas.Bool.Decides.{Decides-int_eq, nat_tests}
use Rattle.bit_words.specs.Operations.{folded}
use Rattle.bit_words.specs.Words.{is_negative, is_within}
use Rattle.input_space.specs.Inputs.{is_between}

-- numbers of a range are within what its ends are within
pub between_within : (p : ℕ) (low high z : ℤ) → folded low < p → folded high < p → is_between low high z ≡ true → is_within p z ≡ true
between_within p (pos a) (pos b) (pos m) h k e = grind (arith, nat_tests)
between_within p (pos a) (negsuc b) (pos m) h k e = grind (arith, nat_tests)
between_within p (negsuc a) (pos b) (pos m) h k e = grind (arith, nat_tests)
between_within p (negsuc a) (negsuc b) (pos m) h k e = grind (arith, nat_tests)
between_within p (pos a) (pos b) (negsuc m) h k e = grind (arith, nat_tests)
between_within p (pos a) (negsuc b) (negsuc m) h k e = grind (arith, nat_tests)
between_within p (negsuc a) (pos b) (negsuc m) h k e = grind (arith, nat_tests)
between_within p (negsuc a) (negsuc b) (negsuc m) h k e = grind (arith, nat_tests)

-- a range of one sign
pub not_negative : (low high z : ℤ) → is_negative low ≡ false → is_between low high z ≡ true → is_negative z ≡ false
not_negative (pos a) high (pos m) h e = refl
not_negative (pos a) high (negsuc m) h e = grind (arith, nat_tests)
not_negative (negsuc a) high z h e = cc

pub negative : (low high z : ℤ) → is_negative high ≡ true → is_between low high z ≡ true → is_negative z ≡ true
negative low (pos b) z h e = cc
negative (pos a) (negsuc b) (pos m) h e = grind (arith, nat_tests)
negative (negsuc a) (negsuc b) (pos m) h e = grind (arith, nat_tests)
negative low (negsuc b) (negsuc m) h e = refl

-- the tests of a range
pub tested : (low high z : ℤ) → (not (lt_z z low) && not (lt_z high z)) ≡ is_between low high z
tested (pos a) (pos b) (pos m) = grind (arith, nat_tests)
tested (pos a) (negsuc b) (pos m) = grind (arith, nat_tests)
tested (negsuc a) (pos b) (pos m) = grind (arith, nat_tests)
tested (negsuc a) (negsuc b) (pos m) = grind (arith, nat_tests)
tested (pos a) (pos b) (negsuc m) = grind (arith, nat_tests)
tested (pos a) (negsuc b) (negsuc m) = grind (arith, nat_tests)
tested (negsuc a) (pos b) (negsuc m) = grind (arith, nat_tests)
tested (negsuc a) (negsuc b) (negsuc m) = grind (arith, nat_tests)

pub one_number : (low z : ℤ) → int_eq z low ≡ is_between low low z
one_number (pos a) (pos m) = grind (arith, nat_tests)
one_number (pos a) (negsuc m) = grind (arith, nat_tests)
one_number (negsuc a) (pos m) = grind (arith, nat_tests)
one_number (negsuc a) (negsuc m) = grind (arith, nat_tests)

pub one_length : (least n : ℕ) → nat_eq n least ≡ (nat_le least n && nat_le n least)
one_length least n = grind (arith, nat_tests)

pub lengths_tested : (least most n : ℕ) → (not (nat_lt n least) && nat_lt n (most + 1)) ≡ (nat_le least n && nat_le n most)
lengths_tested least most n = grind (arith, nat_tests)

-- what is fixed is right, and the test of what it then reads as
pub both_tested : (fixed test wanted : Bool) → (fixed ≡ true → test ≡ wanted) → (wanted ≡ true → fixed ≡ true) → (fixed && test) ≡ wanted
both_tested true test wanted h k = h refl
both_tested false test true h k = absurd (false≢true (k refl))
both_tested false test false h k = refl

pub low_max : (n a b : ℕ) → n < 2 ^ a → n < 2 ^ max a b
low_max n a b h = let le : 2 ^ a ≤ 2 ^ max a b = pow_mono {j = max a b} (omega arith) in omega arith

pub high_max : (n a b : ℕ) → n < 2 ^ b → n < 2 ^ max a b
high_max n a b h = let le : 2 ^ b ≤ 2 ^ max a b = pow_mono {j = max a b} (omega arith) in omega arith

-- truth values that are others
pub and_same : (a b x y : Bool) → a ≡ x → b ≡ y → (a && b) ≡ (x && y)
and_same a b x y e h = cc

-- the digits of a number that has no more
pub all_low : (p low rest n : ℕ) → low + p * rest ≡ n → n < p → low ≡ n
all_low p low zero n e h = omega arith
all_low p low (suc r) n e h = absurd (omega arith)

pub same_numbers : (z y : ℤ) → int_eq z y ≡ true → z ≡ y
same_numbers z y h = (Decides-int_eq z y).0 h
