-- What values within their ranges read as.
use Rattle.std.proofs.Common.{◌≡◌, ◌∙◌, ℕ, ◌<◌, ◌≤◌, Bool, true, false, ◌&&◌, List, [], ◌∷◌, length, map, take, refl, ap, sym, subst, arith, length-take, All}
use Rattle.std.specs.Prelude.{nat_le, int_le, ℤ, pos, replicate}
use Rattle.std.specs.List.{list_all}
use Rattle.std.proofs.lemmas.Bool.{and_from, and_parts, false≢true, leb-true, le-leb}
use Rattle.std.proofs.lemmas.List.{length-map, length-replicate, take-map}
use Rattle.std.proofs.lemmas.List.Elements.{All-replicate}
use Rattle.std.proofs.lemmas.List.Folds.{list_all-map}
use Rattle.mpy_tree.specs.declared.limits.Limits.{Limits}
use Rattle.mpy_tree.specs.declared.value.Value.{Value}
use Rattle.mpy_tree.specs.declared.value.Value.TheVariants as val
use Rattle.mpy_tree.specs.Operations.{fits_width}
use Rattle.mpy_tree.specs.Printable.{ArePrintable}
use Rattle.bit_words.specs.Words.{fits, int_of, nat_of}
use Rattle.bounds_reader.specs.declared.params.Param.{Param}
use Rattle.bounds_reader.specs.declared.params.Param.TheVariants as param
use Rattle.bounds_reader.specs.Forms.{form_of as range_of}
use Rattle.bounds_reader.specs.Ranges.{are_lengths, are_numbers, is_alphabet, is_in_range}
use Rattle.sym_values.specs.Forms.{BoolForm, IntForm, ListForm, TextForm, form_for}
use Rattle.sym_values.specs.Reading.{Reading, spelled}
use Rattle.sym_values.specs.declared.value.SymValue.TheVariants as sym_value
use Rattle.sym_values.proofs.Numbers.{same_fits}
use Rattle.input_space.specs.Inputs.{is_between, param_type}
use Rattle.input_ranges.specs.Alphabets.{is_among}
use Rattle.input_ranges.proofs.CharacterDigits.{among_holds}
use Rattle.input_bits.specs.Known.{HasCharacters, HoldsItems, highest, is_item, is_right, longest, lowest, shortest}

abbrev reading : Bool → Value → Reading
reading p v = record { proper = p; value = v }

-- LENGTHS

-- so many items, where there are so many
taken : {A : Type 0} (n : ℕ) (xs : List A) → n ≤ length xs → length (take n xs) ≡ n
taken n xs h = length-take n xs ∙ omega arith

still : (a b c r : Bool) → (r ≡ true → c ≡ true) → ((a && b) && r) ≡ ((true && c) && ((a && b) && r))
still a b true r h = refl
still a b false true h = absurd (false≢true (h refl))
still true true false false h = refl
still true false false false h = refl
still false b false false h = refl

-- a length in its range is one that the items allow
length_right : (a b e a' b' chars right : Bool) → (b ≡ true → e ≡ true) → (e ≡ true → (a' ≡ a) × (b' ≡ b)) → (right ≡ true → chars ≡ true)
    → ((a && b) && right) ≡ ((e && chars) && ((a' && b') && right))
length_right a true false a' b' chars right h k p = absurd (false≢true (h refl))
length_right true false false a' b' chars right h k p = refl
length_right false false false a' b' chars right h k p = refl
length_right a b true a' b' chars right h k p = let same = k refl in rw (same.0, same.1) (still a b chars right p)

within_items : (n most k : ℕ) → most ≤ k → nat_le n most ≡ true → nat_le n k ≡ true
within_items n most k h e = let le : n ≤ most = leb-true n most e in le-leb n k (omega arith)

same_length : {A : Type 0} (least most n k : ℕ) (xs : List A) → k ≡ length xs → nat_le n k ≡ true
    → (nat_le least (length (take n xs)) ≡ nat_le least n) × (nat_le (length (take n xs)) most ≡ nat_le n most)
same_length least most n k xs h e =
    let le : n ≤ k = leb-true n k e in
    let long : length (take n xs) ≡ n = taken n xs (omega arith) in
    (ap (λ m. nat_le least m) long, ap (λ m. nat_le m most) long)

-- LISTS AND TEXTS

-- a test of the first numbers is one of the first words
words_tested : {C : Type 0} (p : C → Bool) (f : List Bool → C) (n : ℕ) (ws : List (List Bool)) → list_all (λ w. p (f w)) (take n ws) ≡ list_all p (take n (map f ws))
words_tested p f n ws = sym (list_all-map p f (take n ws)) ∙ ap (list_all p) (sym (take-map f n ws))

list_within : (least most : ℕ) (low high : ℤ) (n : ℕ) (ws : List (List Bool)) → most ≤ length ws
    → ((nat_le least n && nat_le n most) && list_all (is_item (param.List least most low high)) (take n ws))
    ≡ is_right (param.List least most low high) (reading (nat_le n (length ws)) (val.List (take n (map int_of ws))))
list_within least most low high n ws h =
    let zs = map int_of ws in
    let right = list_all (is_between low high) (take n zs) in
    ap (λ r. (nat_le least n && nat_le n most) && r) (words_tested (is_between low high) int_of n ws)
    ∙ length_right (nat_le least n) (nat_le n most) (nat_le n (length ws)) (nat_le least (length (take n zs))) (nat_le (length (take n zs)) most) true right
    (within_items n most (length ws) h) (same_length least most n (length ws) zs (sym (length-map ws int_of))) (λ e. refl)

characters_alone : (alphabet cs : List ℕ) → ArePrintable alphabet → list_all (is_among alphabet) cs ≡ true → list_all (λ c. nat_le 32 c && nat_le c 126) cs ≡ true
characters_alone alphabet [] h e = refl
characters_alone alphabet (c ∷ cs) h e =
    let parts = and_parts (is_among alphabet c) (list_all (is_among alphabet) cs) e in
    let one = among_holds (λ d. (32 ≤ d) × (d ≤ 126)) alphabet c (λ k l. h k 0 l) parts.0 in
    and_from (nat_le 32 c && nat_le c 126) (list_all (λ d. nat_le 32 d && nat_le d 126) cs)
    (and_from (nat_le 32 c) (nat_le c 126) (le-leb 32 c one.0) (le-leb c 126 one.1)) (characters_alone alphabet cs h parts.1)

text_within : (least most : ℕ) (alphabet : List ℕ) (n : ℕ) (ws : List (List Bool)) → ArePrintable alphabet → most ≤ length ws
    → ((nat_le least n && nat_le n most) && list_all (is_item (param.Text least most alphabet)) (take n ws))
    ≡ is_right (param.Text least most alphabet) (reading (nat_le n (length ws)) (val.Text (take n (map nat_of ws))))
text_within least most alphabet n ws printable h =
    let cs = map nat_of ws in
    let right = list_all (is_among alphabet) (take n cs) in
    ap (λ r. (nat_le least n && nat_le n most) && r) (words_tested (is_among alphabet) nat_of n ws)
    ∙ length_right (nat_le least n) (nat_le n most) (nat_le n (length ws)) (nat_le least (length (take n cs))) (nat_le (length (take n cs)) most)
    (list_all (λ c. nat_le 32 c && nat_le c 126) (take n cs)) right
    (within_items n most (length ws) h) (same_length least most n (length ws) cs (sym (length-map ws nat_of))) (characters_alone alphabet (take n cs) printable)

-- WHAT THE FORM OF A VALUE SAYS

-- the items are as many as the greatest length, and as wide as their range asks
pub record Fitting (p : Param) (ns : List ℕ) : Type 0 where
  pub most : longest p ≤ length ns
  pub short : longest p ≤ 16
  pub range : All (HoldsItems p) ns

lengths_within : (cap least most : ℕ) → are_lengths cap (pos least) (pos most) ≡ true → most ≤ cap
lengths_within cap least most h = grind arith

range_fits : (width : ℕ) (low high : ℤ) → are_numbers width low high ≡ true → (fits width low ≡ true) × (fits width high ≡ true)
range_fits width low high h =
    let outer = and_parts (int_le low high && fits_width width low) (fits_width width high) h in
    let inner = and_parts (int_le low high) (fits_width width low) outer.0 in
    (same_fits width low ∙ inner.1, same_fits width high ∙ outer.1)

pub list_fitting : (l : Limits) (p : Param) (n : ℕ) (ns : List ℕ) → ListForm n ns ≡ form_for l (param_type p)
    → is_in_range l.width l.cap (range_of p) ≡ true → Fitting p ns
list_fitting l (param.Int low high) n ns e h = cc
list_fitting l param.Bool n ns e h = cc
list_fitting l (param.Text least most alphabet) n ns e h = cc
list_fitting l (param.List least most low high) n ns e h =
    let parts = and_parts (are_lengths l.cap (pos least) (pos most)) (are_numbers l.width low high) h in
    let le : most ≤ l.cap = lengths_within l.cap least most parts.0 in
    let cap = l.cap_range.1 in
    let wide = l.width_range.0 in
    let all : ns ≡ replicate l.cap l.width = cc in
    let many : length ns ≡ l.cap = ap length all ∙ length-replicate l.cap l.width in
    let fit = range_fits l.width low high parts.1 in
    record {
      most = omega arith;
      short = omega arith;
      range = subst (All (HoldsItems (param.List least most low high))) (sym all) (All-replicate (HoldsItems (param.List least most low high)) l.cap l.width (omega arith, fit.0, fit.1));
    }

pub text_fitting : (l : Limits) (p : Param) (n : ℕ) (ns : List ℕ) → TextForm n ns ≡ form_for l (param_type p)
    → is_in_range l.width l.cap (range_of p) ≡ true → Fitting p ns
text_fitting l (param.Int low high) n ns e h = cc
text_fitting l param.Bool n ns e h = cc
text_fitting l (param.List least most low high) n ns e h = cc
text_fitting l (param.Text least most alphabet) n ns e h =
    let parts = and_parts (are_lengths l.cap (pos least) (pos most)) (is_alphabet alphabet) h in
    let le : most ≤ l.cap = lengths_within l.cap least most parts.0 in
    let cap = l.cap_range.1 in
    let all : ns ≡ replicate l.cap 7 = cc in
    let many : length ns ≡ l.cap = ap length all ∙ length-replicate l.cap 7 in
    record {
      most = omega arith;
      short = omega arith;
      range = subst (All (HoldsItems (param.Text least most alphabet))) (sym all) (All-replicate (HoldsItems (param.Text least most alphabet)) l.cap 7 (omega arith));
    }

pub record NumberFitting (p : Param) (width : ℕ) : Type 0 where
  pub some : 0 < width
  pub low : fits width (lowest p) ≡ true
  pub high : fits width (highest p) ≡ true

pub number_fitting : (l : Limits) (p : Param) (width : ℕ) → IntForm width ≡ form_for l (param_type p)
    → is_in_range l.width l.cap (range_of p) ≡ true → NumberFitting p width
number_fitting l param.Bool width e h = cc
number_fitting l (param.List least most low high) width e h = cc
number_fitting l (param.Text least most alphabet) width e h = cc
number_fitting l (param.Int low high) width e h =
    let same : width ≡ l.width = cc in
    let wide = l.width_range.0 in
    let fit = range_fits l.width low high h in
    record {
      some = omega arith;
      low = ap (λ w. fits w low) same ∙ fit.0;
      high = ap (λ w. fits w high) same ∙ fit.1;
    }

-- VALUES

pub number_right : (l : Limits) (p : Param) (n : ℕ) (z : ℤ) → IntForm n ≡ form_for l (param_type p)
    → is_between (lowest p) (highest p) z ≡ is_right p (reading true (val.Int z))
number_right l (param.Int low high) n z e = refl
number_right l param.Bool n z e = cc
number_right l (param.List least most low high) n z e = cc
number_right l (param.Text least most alphabet) n z e = cc

pub truth_right : (l : Limits) (p : Param) (b : Bool) → BoolForm ≡ form_for l (param_type p) → true ≡ is_right p (reading true (val.Bool b))
truth_right l param.Bool b e = refl
truth_right l (param.Int low high) b e = cc
truth_right l (param.List least most low high) b e = cc
truth_right l (param.Text least most alphabet) b e = cc

pub list_right : (l : Limits) (p : Param) (ns : List ℕ) (len : List Bool) (ws : List (List Bool)) (k : ℕ) → ListForm k ns ≡ form_for l (param_type p) → longest p ≤ length ws
    → ((nat_le (shortest p) (nat_of len) && nat_le (nat_of len) (longest p)) && list_all (is_item p) (take (nat_of len) ws)) ≡ is_right p (spelled (sym_value.List len ws))
list_right l (param.Int low high) ns len ws k e h = cc
list_right l param.Bool ns len ws k e h = cc
list_right l (param.Text least most alphabet) ns len ws k e h = cc
list_right l (param.List least most low high) ns len ws k e h = list_within least most low high (nat_of len) ws h

pub text_right : (l : Limits) (p : Param) (ns : List ℕ) (len : List Bool) (ws : List (List Bool)) (k : ℕ) → HasCharacters p → TextForm k ns ≡ form_for l (param_type p) → longest p ≤ length ws
    → ((nat_le (shortest p) (nat_of len) && nat_le (nat_of len) (longest p)) && list_all (is_item p) (take (nat_of len) ws)) ≡ is_right p (spelled (sym_value.Text len ws))
text_right l (param.Int low high) ns len ws k c e h = cc
text_right l param.Bool ns len ws k c e h = cc
text_right l (param.List least most low high) ns len ws k c e h = cc
text_right l (param.Text least most alphabet) ns len ws k c e h = text_within least most alphabet (nat_of len) ws c h

-- items that are right as far as the length
first_read : {C : Type 0} (f : List Bool → C) (n : ℕ) (ws ws' : List (List Bool)) → take n ws' ≡ take n ws → take n (map f ws') ≡ take n (map f ws)
first_read f n ws ws' e = take-map f n ws' ∙ ap (map f) e ∙ sym (take-map f n ws)

pub list_same : (len len' : List Bool) (ws ws' : List (List Bool)) → len' ≡ len → length ws' ≡ length ws → take (nat_of len) ws' ≡ take (nat_of len) ws
    → spelled (sym_value.List len' ws') ≡ spelled (sym_value.List len ws)
list_same len len' ws ws' e h f =
    ap (λ v. spelled (sym_value.List v ws')) e
    ∙ ap (λ k. reading (nat_le (nat_of len) k) (val.List (take (nat_of len) (map int_of ws')))) h
    ∙ ap (λ zs. reading (nat_le (nat_of len) (length ws)) (val.List zs)) (first_read int_of (nat_of len) ws ws' f)

pub text_same : (len len' : List Bool) (ws ws' : List (List Bool)) → len' ≡ len → length ws' ≡ length ws → take (nat_of len) ws' ≡ take (nat_of len) ws
    → spelled (sym_value.Text len' ws') ≡ spelled (sym_value.Text len ws)
text_same len len' ws ws' e h f =
    ap (λ v. spelled (sym_value.Text v ws')) e
    ∙ ap (λ k. reading (nat_le (nat_of len) k) (val.Text (take (nat_of len) (map nat_of ws')))) h
    ∙ ap (λ cs. reading (nat_le (nat_of len) (length ws)) (val.Text cs)) (first_read nat_of (nat_of len) ws ws' f)
