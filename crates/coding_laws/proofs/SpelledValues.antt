-- Truth values that spell values.
use Rattle.std.proofs.Common.{◌≡◌, ℕ, ◌+◌, ◌-◌, ◌^◌, ◌≤◌, Bool, true, ◌&&◌, List, [], ◌∷◌}
use Rattle.std.proofs.Common.{length, Some, None, refl, ap, ◌∙◌, arith, length-append}
use Rattle.std.specs.Prelude.{ℤ, pos, nat_lt, nat_le, slice_index_or, option_map, if◌then◌else◌}
use Rattle.std.specs.List.{flat_map, list_all}
use Rattle.std.proofs.lemmas.Bool.{leb-true, lt-ltb, ltb-true}
use Rattle.mpy_tree.specs.declared.limits.Limits.{Limits}
use Rattle.mpy_tree.specs.declared.typing.Ty.{Ty}
use Rattle.mpy_tree.specs.declared.typing.Ty.TheVariants as ty
use Rattle.mpy_tree.specs.declared.value.Value.{Value}
use Rattle.mpy_tree.specs.declared.value.Value.TheVariants as value
use Rattle.mpy_tree.specs.Fitting.{all_fit_as, fits_as}
use Rattle.mpy_tree.specs.Operations.{fits_width}
use Rattle.mpy_tree.specs.Options.{◌>>=◌}
use Rattle.bit_words.specs.Words.{int_of, nat_of}
use Rattle.bit_words.proofs.Signs.{power_positive}
use Rattle.input_space.specs.ValueBits.{all_bits_for, bits_for, printable, value_at, values_at}
use Rattle.input_space.proofs.Membership.{both, two}
use Rattle.coding_laws.proofs.Digits.{digits, int_of_word, length-digits, length-word_of}
use Rattle.coding_laws.proofs.Digits.{nat_digits, word_of}
use Rattle.coding_laws.proofs.Standing.{Stands, parts_stand, reads, rest_stands}
use Rattle.coding_laws.proofs.Words.{coded_list, length-coded_list, list_read}

abbrev pub spelled : Limits → Value → List Bool
spelled l (value.Int z) = word_of l.width z
spelled l (value.Bool b) = b ∷ []
spelled l (value.List zs) = coded_list (word_of l.width) l.cap (pos 0) zs
spelled l (value.Text cs) = coded_list (digits 7) l.cap 0 cs

abbrev pub is_printable : ℕ → Bool
is_printable c = nat_le 32 c && nat_le c 126

-- the characters of a text are from 32 to 126
abbrev pub is_spelled : Value → Bool
is_spelled (value.Int z) = true
is_spelled (value.Bool b) = true
is_spelled (value.List zs) = true
is_spelled (value.Text cs) = list_all is_printable cs

-- WORDS OF THE LIMITS

word_long : (l : Limits) (z : ℤ) → length (word_of l.width z) ≡ l.width
word_long l z = let wide = l.width_range.0 in length-word_of l.width z (omega (arith, wide))

zero_fits : (l : Limits) → fits_width l.width (pos 0) ≡ true
zero_fits l = lt-ltb 0 (2 ^ (l.width - 1)) (power_positive (l.width - 1))

-- a character fits 7 bits
abbrev is_seven : ℕ → Bool
is_seven c = nat_lt c (2 ^ 7)

seven_read : (c : ℕ) → is_seven c ≡ true → nat_of (digits 7 c) ≡ c
seven_read c h = nat_digits 7 c (ltb-true c (2 ^ 7) h)

each_seven : (cs : List ℕ) → list_all is_printable cs ≡ true → list_all is_seven cs ≡ true
each_seven [] h = refl
each_seven (c ∷ cs) h =
    let r = both (is_printable c) (list_all is_printable cs) h in
    let most : c ≤ 126 = leb-true c 126 (both (nat_le 32 c) (nat_le c 126) r.0).1 in
    let one : is_seven c ≡ true = lt-ltb c (2 ^ 7) (omega arith) in
    two (is_seven c) (list_all is_seven cs) one (each_seven cs r.1)

-- ONE VALUE

pub length-spelled : (l : Limits) (t : Ty) (v : Value) → fits_as l t v ≡ true
    → length (spelled l v) ≡ bits_for l t
length-spelled l ty.Int (value.Int z) h = word_long l z
length-spelled l ty.Bool (value.Bool b) h = refl
length-spelled l ty.List (value.List zs) h =
    let r = both (nat_le (length zs) l.cap) (list_all (fits_width l.width) zs) h in
    let short = leb-true (length zs) l.cap r.0 in
    length-coded_list (word_of l.width) l.width (word_long l) l.cap (pos 0) zs short
length-spelled l ty.Text (value.Text cs) h =
    length-coded_list (digits 7) 7 (length-digits 7) l.cap 0 cs (leb-true (length cs) l.cap h)
length-spelled l _ _ h = absurd (cc)

value_stands : (l : Limits) (t : Ty) (v : Value) (vs : List Bool) (start : ℕ) → fits_as l t v ≡ true
    → is_spelled v ≡ true → Stands vs start (spelled l v) → value_at l t vs start ≡ Some v
value_stands l ty.Int (value.Int z) vs start h p s =
    let word = reads vs (word_of l.width z) start l.width (word_long l z) s in
    ap (λ w. Some (value.Int (int_of w))) word
    ∙ ap (λ y. Some (value.Int y)) (int_of_word l.width z h)
value_stands l ty.Bool (value.Bool b) vs start h p s =
    ap (λ w. Some (value.Bool (slice_index_or w 0 true))) s
value_stands l ty.List (value.List zs) vs start h p s =
    let r = both (nat_le (length zs) l.cap) (list_all (fits_width l.width) zs) h in
    let w = l.width in
    let short = leb-true (length zs) l.cap r.0 in
    ap (option_map value.List)
    (list_read (word_of w) w (word_long l) int_of (fits_width w) (int_of_word w) vs start l.cap
    (pos 0) zs l.cap_range.1 short (zero_fits l) r.1 s)
value_stands l ty.Text (value.Text cs) vs start h p s =
    ap (λ o. option_map value.Text (o >>= printable))
    (list_read (digits 7) 7 (length-digits 7) nat_of is_seven seven_read
    vs start l.cap 0 cs l.cap_range.1 (leb-true (length cs) l.cap h) refl (each_seven cs p) s)
    ∙ ap (λ b. option_map value.Text (if b then Some cs else None)) p
value_stands l _ _ vs start h p s = absurd (cc)

-- SEVERAL VALUES

pub length-all_spelled : (l : Limits) (ts : List Ty) (xs : List Value) → all_fit_as l ts xs ≡ true
    → length (flat_map (spelled l) xs) ≡ all_bits_for l ts
length-all_spelled l [] [] h = refl
length-all_spelled l [] (x ∷ xs) h = absurd (cc)
length-all_spelled l (t ∷ ts) [] h = absurd (cc)
length-all_spelled l (t ∷ ts) (x ∷ xs) h =
    let r = both (fits_as l t x) (all_fit_as l ts xs) h in
    let one = length-spelled l t x r.0 in
    let others = length-all_spelled l ts xs r.1 in
    length-append (spelled l x) (flat_map (spelled l) xs) ∙ (λ i. one i + others i)

pub values_stand : (l : Limits) (ts : List Ty) (xs : List Value) (vs : List Bool) (start : ℕ)
    → all_fit_as l ts xs ≡ true → list_all is_spelled xs ≡ true
    → Stands vs start (flat_map (spelled l) xs) → values_at l ts vs start ≡ Some xs
values_stand l [] [] vs start h p s = refl
values_stand l [] (x ∷ xs) vs start h p s = absurd (cc)
values_stand l (t ∷ ts) [] vs start h p s = absurd (cc)
values_stand l (t ∷ ts) (x ∷ xs) vs start h p s =
    let r = both (fits_as l t x) (all_fit_as l ts xs) h in
    let q = both (is_spelled x) (list_all is_spelled xs) p in
    let rest = flat_map (spelled l) xs in
    let here = (parts_stand vs (spelled l x) rest start s).0 in
    let bits = bits_for l t in
    let later = rest_stands vs (spelled l x) rest start bits (length-spelled l t x r.0) s in
    let one : value_at l t vs start ≡ Some x = value_stands l t x vs start r.0 q.0 here in
    let others : values_at l ts vs (start + bits) ≡ Some xs =
    values_stand l ts xs vs (start + bits) r.1 q.1 later in
    ap (λ o. o >>= λ v. option_map (λ rest. v ∷ rest) (values_at l ts vs (start + bits))) one
    ∙ ap (option_map (λ rest. x ∷ rest)) others
