-- The bytes of numbers in decimal.
use Rattle.std.proofs.Common.{◌≡◌, ℕ, suc, ◌^◌, ◌<◌, ◌≤◌, Bool, true, ◌&&◌, ◌||◌, ◌==◌, nat_le, List, [], ◌∷◌, length, Result, Ok, ℤ, pos, negsuc, FitsSigned, w32, refl, sym, ◌∙◌, subst, arith}
use Rattle.std.specs.Fmt.{decimal, signed_decimal}
use Rattle.std.specs.List.{list_all}
use Rattle.std.specs.Str.{IsAscii, IsUtf8}
use Rattle.std.specs.Str.Parse.{AllDigits, ParsesSigned}
use Rattle.std.proofs.lemmas.Fmt.{IsAscii-signed, decimal_is_IsNumeral, parse-signed_decimal, signed_decimal_injective}
use Rattle.std.proofs.lemmas.Str.{IsUtf8-from_ascii}
use Rattle.std.proofs.lemmas.Str.Parse.{digit_from_value}
use lib.Signed.{mag}
use Rattle.mpy_tree.specs.Operations.{fits_width}
use Rattle.input_space.specs.Cases.{SpellsNumber}
use Rattle.input_space.proofs.Membership.{two}

-- a digit or a minus
abbrev pub is_numeral : ℕ → Bool
is_numeral c = c == 45 || (nat_le 48 c && nat_le c 57)

digit_is : (c : ℕ) → 48 ≤ c → c ≤ 57 → is_numeral c ≡ true
digit_is c h g = grind arith

digits_are : (ds : List ℕ) → AllDigits 10 ds → list_all is_numeral ds ≡ true
digits_are [] h = refl
digits_are (c ∷ cs) h =
    let r = digit_from_value c h.0 in
    two (is_numeral c) (list_all is_numeral cs) (digit_is c r.0 r.1) (digits_are cs h.1)

pub small : (z : ℤ) → fits_width 32 z ≡ true → mag z < 2 ^ 31
small (pos n) h = grind arith
small (negsuc n) h = grind arith

pub fits_from : (z : ℤ) → FitsSigned w32 z → fits_width 32 z ≡ true
fits_from (pos n) h = grind (arith, h.sfits)
fits_from (negsuc n) h = grind (arith, h.sfits)

pub fits_32 : (z : ℤ) → fits_width 32 z ≡ true → FitsSigned w32 z
fits_32 z h = record { sfits = small z h }

-- a number's text is digits, maybe behind a minus
pub record Numeral (text : List ℕ) : Type 0 where
  pub some : 0 < length text
  pub bytes : list_all is_numeral text ≡ true

decimal_is : (n : ℕ) → n < 2 ^ 64 → Numeral (decimal n)
decimal_is n h = let r = (decimal_is_IsNumeral n h).0 in record { some = r.0; bytes = digits_are (decimal n) r.1 }

signed_is : (z : ℤ) → mag z < 2 ^ 31 → Numeral (signed_decimal z)
signed_is (pos n) h = decimal_is n (omega arith)
signed_is (negsuc n) h = let r = decimal_is (suc n) (omega arith) in record { some = omega arith; bytes = r.bytes }

pub numeral : (text : List ℕ) (z : ℤ) → SpellsNumber text z → Numeral text
numeral text z h = subst Numeral (sym h.written) (signed_is z (small z h.fits))

pub number_one : (text : List ℕ) (y z : ℤ) → SpellsNumber text y → SpellsNumber text z → y ≡ z
number_one text y z h g =
    let a : mag y < 2 ^ 31 = small y h.fits in
    let b : mag z < 2 ^ 31 = small z g.fits in
    signed_decimal_injective y z (omega arith) (omega arith) (sym h.written ∙ g.written)

-- what reading such a text as a number gives
pub number_read : {E : Type 0} (text bs : List ℕ) (z : ℤ) (r : Result ℤ E) → SpellsNumber text z → bs ≡ text → ParsesSigned w32 10 bs r → r ≡ Ok z
number_read text bs z r h e p =
    let low : mag z < 2 ^ 31 = small z h.fits in
    parse-signed_decimal w32 z bs r (fits_32 z h.fits) (omega arith) (e ∙ h.written) p

pub number_utf8 : (text : List ℕ) (z : ℤ) → SpellsNumber text z → IsUtf8 text
number_utf8 text z h =
    let low : mag z < 2 ^ 31 = small z h.fits in
    IsUtf8-from_ascii text (subst IsAscii (sym h.written) (IsAscii-signed z (omega arith)))
