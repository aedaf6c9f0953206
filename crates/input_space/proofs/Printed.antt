-- The text of a printable value spells it.
use Rattle.std.proofs.Common.{◌≡◌, ℕ, ◌<◌, ◌≤◌, Bool, true, false, ◌==◌, cond, List, [], ◌∷◌, ◌++◌, map, codes, length, Some, ℤ, All, refl, sym, ap, subst, arith, append_assoc}
use Rattle.std.specs.Fmt.{signed_decimal}
use Rattle.std.specs.List.{AllZip, flat_map}
use Rattle.std.proofs.lemmas.List.Elements.{All-head, All-tail}
use Rattle.mpy_tree.specs.declared.value.Value.{Value}
use Rattle.mpy_tree.specs.declared.value.Value.TheVariants as value
use Rattle.mpy_tree.specs.Operations.{fits_width}
use Rattle.mpy_tree.specs.Printable.{ArePrintable}
use Rattle.mpy_tree.specs.Printing.{commas, escaped, value_text, values_text}
use Rattle.mpy_lexer.specs.TextLiterals.{characters, is_printable, with_character}
use Rattle.input_space.specs.CaseLaws.{IsPrintable}
use Rattle.input_space.specs.Cases.{SpellsCase, SpellsNumber, SpellsValue}

-- the bytes behind an opening single quote: the characters, and the closing quote
record IsBody (cs bytes : List ℕ) : Type 0 where
  some : 0 < length bytes
  spells : characters 39 bytes ≡ Some cs

quote_alone : IsBody [] (39 ∷ [])
unfolding characters
quote_alone = record { some = omega arith; spells = refl }

plain : (c : ℕ) (cs bytes : List ℕ) → (c == 39) ≡ false → (c == 92) ≡ false → is_printable c ≡ true → IsBody cs bytes → characters 39 (c ∷ bytes) ≡ Some (c ∷ cs)
unfolding characters
plain c cs [] a b p h = absurd (omega (arith, h.some))
plain c cs (d ∷ bytes) a b p h = rw (a, b, p) (ap (with_character c) h.spells)

backslash : (cs bytes : List ℕ) → IsBody cs bytes → characters 39 (92 ∷ 92 ∷ bytes) ≡ Some (92 ∷ cs)
unfolding characters
backslash cs bytes h = ap (with_character 92) h.spells

quote : (cs bytes : List ℕ) → IsBody cs bytes → characters 39 (92 ∷ 39 ∷ bytes) ≡ Some (39 ∷ cs)
unfolding characters
quote cs bytes h = ap (with_character 39) h.spells

same_number : (c d : ℕ) → (c == d) ≡ true → c ≡ d
same_number c d h = grind arith

one_more : (c : ℕ) (cs bytes : List ℕ) (b d : Bool) → (c == 92) ≡ b → (c == 39) ≡ d → is_printable c ≡ true → IsBody cs bytes → IsBody (c ∷ cs) (cond b (92 ∷ 92 ∷ []) (cond d (92 ∷ 39 ∷ []) (c ∷ [])) ++ bytes)
one_more c cs bytes true d e f p h =
    subst (λ x. IsBody (x ∷ cs) (92 ∷ 92 ∷ bytes)) (sym (same_number c 92 e)) (record { some = omega arith; spells = backslash cs bytes h })
one_more c cs bytes false true e f p h =
    subst (λ x. IsBody (x ∷ cs) (92 ∷ 39 ∷ bytes)) (sym (same_number c 39 f)) (record { some = omega arith; spells = quote cs bytes h })
one_more c cs bytes false false e f p h = record { some = omega arith; spells = plain c cs bytes f e p h }

printable_is : (c : ℕ) → (32 ≤ c) × (c ≤ 126) → is_printable c ≡ true
printable_is c h = grind (arith, h.0, h.1)

body : (cs : List ℕ) → ArePrintable cs → IsBody cs (flat_map escaped cs ++ codes "'")
body [] p = quote_alone
body (c ∷ cs) p =
    let one = printable_is c (All-head (λ d. (32 ≤ d) × (d ≤ 126)) c cs p) in
    let others = All-tail (λ d. (32 ≤ d) × (d ≤ 126)) c cs p in
    let more = one_more c cs (flat_map escaped cs ++ codes "'") (c == 92) (c == 39) refl refl one (body cs others) in
    subst (IsBody (c ∷ cs)) (sym (append_assoc (escaped c) (flat_map escaped cs) (codes "'"))) more

numbers_spelled : (zs : List ℤ) → All (λ z. fits_width 32 z ≡ true) zs → AllZip SpellsNumber (map signed_decimal zs) zs
numbers_spelled [] h = tt
numbers_spelled (z ∷ zs) h =
    (record { written = refl; fits = All-head (λ y. fits_width 32 y ≡ true) z zs h }, numbers_spelled zs (All-tail (λ y. fits_width 32 y ≡ true) z zs h))

pub value_spelled : (v : Value) → IsPrintable v → SpellsValue (value_text v) v
value_spelled (value.Int z) h = record { written = refl; fits = h }
value_spelled (value.Bool b) h = refl
value_spelled (value.List zs) h =
    record {
      inner = commas (map signed_decimal zs);
      bracketed = refl;
      spelled = record { pieces = map signed_decimal zs; joined = refl; spelled = numbers_spelled zs h };
    }
value_spelled (value.Text cs) h = (body cs h).spells

values_spelled : (vs : List Value) → All IsPrintable vs → AllZip SpellsValue (map value_text vs) vs
values_spelled [] h = tt
values_spelled (v ∷ vs) h = (value_spelled v (All-head IsPrintable v vs h), values_spelled vs (All-tail IsPrintable v vs h))

pub case_spelled : (vs : List Value) → All IsPrintable vs → SpellsCase (values_text vs) vs
case_spelled vs h = record { pieces = map value_text vs; joined = refl; spelled = values_spelled vs h }
