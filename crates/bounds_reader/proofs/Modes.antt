-- Going over a line byte by byte with a mode finds the bytes that its parts have as faulty.
use Rattle.std.proofs.Common.{◌≡◌, ℕ, zero, suc, ◌+◌, ◌-◌, ◌<◌, ◌≤◌, Bool, true, false, List, [], ◌∷◌, ◌++◌, length, take, drop, Option, Some, None, option_map, refl, sym, ap, ◌∙◌, inl, inr, add-one, arith}
use Rattle.std.specs.Prelude.{◌||◌, ◌&&◌, ◌==◌, ◌⊎◌, not, nat_le, nat_eq}
use Rattle.std.specs.List.{list_any, list_all, prefix_len, starts_with}
use Rattle.std.specs.Char.{is_ascii_digit, is_ascii_alphabetic}
use Rattle.std.proofs.lemmas.Bool.{or_cases, or_left, or_parts, or_from, and_parts, and_from, eqb-true, ne_eqb, cond_both, leb-true, le-leb, false≢true, not_from_false}
use Rattle.std.proofs.lemmas.List.{take-append-drop, take_all, drop_all, length-drop}
use Rattle.std.proofs.lemmas.Slice.Eq.{bytes_eq-Decides}
use Rattle.mpy_lexer.specs.declared.forms.Form.TheVariants.{Program}
use Rattle.mpy_lexer.specs.Bytes.{is_blank, is_white, is_quote, is_name_start, is_name_byte}
use Rattle.mpy_lexer.specs.Words.{marks, first_len, mark_len}
use Rattle.mpy_lexer.specs.Pieces.{piece, closing, has_wrong_escape, text_to, name_at, number_value, digits_len, is_glued, number_at, sign_by, sign_at, piece_at, parts}
use Rattle.mpy_lexer.specs.PhysicalLines.{is_line_feed_next, is_allowed, has_foreign_byte, is_foreign}
use Rattle.bounds_reader.specs.declared.foreign.Mode.TheVariants.{Plain, Text, Comment}
use Rattle.bounds_reader.specs.Modes.{has_fault_from, mode_behind}
use Rattle.bounds_reader.specs.Files.{has_faulty_byte, first_line}
use Rattle.bounds_reader.proofs.Digits.{Stops, prefix_passes, prefix_stops}

abbrev type_of : {A : Type 0} → A → Type 0
type_of {A} x = A

abbrev Piece : Type 0
Piece = type_of (piece_at Program [])

abbrev Sort : Type 0
Sort = type_of (piece_at Program []).sort

-- a printable byte that opens neither a text nor a comment
abbrev fine : ℕ → Bool
fine c = (nat_le 32 c && nat_le c 126) && not (is_quote c || c == 35)

record Fine (c : ℕ) : Type 0 where
  low : nat_le 32 c ≡ true
  high : nat_le c 126 ≡ true
  quote : is_quote c ≡ false
  hash : (c == 35) ≡ false

not_either : (a b : Bool) → not (a || b) ≡ true → (a ≡ false) × (b ≡ false)
not_either true b h = absurd cc
not_either false true h = absurd cc
not_either false false h = (refl, refl)

fine_parts : (c : ℕ) → fine c ≡ true → Fine c
fine_parts c h =
    let both = and_parts (nat_le 32 c && nat_le c 126) (not (is_quote c || c == 35)) h in
    let range = and_parts (nat_le 32 c) (nat_le c 126) both.0 in
    let calm = not_either (is_quote c) (c == 35) both.1 in
    record { low = range.0; high = range.1; quote = calm.0; hash = calm.1 }

fine_from : (c : ℕ) → 32 ≤ c → c ≤ 126 → (c ≡ 39 → ⊥) → (c ≡ 34 → ⊥) → (c ≡ 35 → ⊥) → fine c ≡ true
fine_from c low high single double hash =
    and_from (nat_le 32 c && nat_le c 126) (not (is_quote c || c == 35))
    (and_from (nat_le 32 c) (nat_le c 126) (le-leb 32 c low) (le-leb c 126 high))
    (not_from_false (is_quote c || c == 35) (or_from (is_quote c) (c == 35) (or_from (c == 39) (c == 34) (ne_eqb c 39 single) (ne_eqb c 34 double)) (ne_eqb c 35 hash)))

one_fine : (c : ℕ) (rest : List ℕ) → Fine c → has_fault_from Plain (c ∷ rest) ≡ has_fault_from Plain rest
unfolding has_fault_from
one_fine c rest f = rw (f.low, f.high, f.quote, f.hash) refl

one_printable : (b : Bool) (c : ℕ) (rest : List ℕ) → Fine c → has_foreign_byte b (c ∷ rest) ≡ has_foreign_byte b rest
unfolding has_foreign_byte
one_printable b c rest f = rw (f.low, f.high) refl

all_fine : (xs ys : List ℕ) → list_all fine xs ≡ true → has_fault_from Plain (xs ++ ys) ≡ has_fault_from Plain ys
all_fine [] ys h = refl
all_fine (x ∷ xs) ys h =
    let both = and_parts (fine x) (list_all fine xs) h in
    one_fine x (xs ++ ys) (fine_parts x both.0) ∙ all_fine xs ys both.1

none_foreign : (xs : List ℕ) → list_all fine xs ≡ true → has_foreign_byte false xs ≡ false
unfolding has_foreign_byte
none_foreign [] h = refl
none_foreign (x ∷ xs) h =
    let both = and_parts (fine x) (list_all fine xs) h in
    one_printable false x xs (fine_parts x both.0) ∙ none_foreign xs both.1

-- what a piece has as faulty is found on the way through it
abbrev Fits : List ℕ → Piece → Type 0
Fits text p =
    (has_fault_from Plain text ≡ (is_foreign p.sort (take p.len text) || has_fault_from Plain (drop p.len text)))
    × (0 < p.len)

-- whether a sort takes no tab
abbrev IsOutside : Sort → Type 0
IsOutside s = (bytes : List ℕ) → is_foreign s bytes ≡ has_foreign_byte false bytes

fine_piece : (p : Piece) (text : List ℕ) → IsOutside p.sort → 0 < p.len → list_all fine (take p.len text) ≡ true → Fits text p
fine_piece p text same some h =
    let none : is_foreign p.sort (take p.len text) ≡ false = same (take p.len text) ∙ none_foreign (take p.len text) h in
    let main : has_fault_from Plain text ≡ has_fault_from Plain (drop p.len text) =
    ap (has_fault_from Plain) (sym (take-append-drop p.len text)) ∙ all_fine (take p.len text) (drop p.len text) h in
    (rw none main, some)

-- white space

is_white_case : (c : ℕ) → is_white c ≡ true → ((c ≡ 9) ⊎ (c ≡ 32)) ⊎ ((c ≡ 10) ⊎ (c ≡ 13))
is_white_case c h = grind arith

white_calm : (c : ℕ) → is_white c ≡ true → mode_behind Plain c ≡ Plain
white_calm c h = elim (is_white_case c h) [
  | inl blank ↦ elim blank [ inl e ↦ rw e refl | inr e ↦ rw e refl ]
  | inr end ↦ elim end [ inl e ↦ rw e refl | inr e ↦ rw e refl ]
]

no_line_feed : (ys : List ℕ) → Stops is_white ys → is_line_feed_next ys ≡ false
no_line_feed [] h = refl
no_line_feed (y ∷ ys) h = ne_eqb y 10 (λ e. let w : is_white y ≡ true = rw e refl in false≢true (sym h ∙ w))

same_next : (xs ys : List ℕ) → Stops is_white ys → is_line_feed_next (xs ++ ys) ≡ is_line_feed_next xs
same_next [] ys h = no_line_feed ys h
same_next (x ∷ xs) ys h = refl

or_none : (a : Bool) → (a || false) ≡ a
or_none true = refl
or_none false = refl

or_assoc : (a b c : Bool) → (a || (b || c)) ≡ ((a || b) || c)
or_assoc true b c = refl
or_assoc false b c = refl

white_bytes : (xs ys : List ℕ) → list_all is_white xs ≡ true → Stops is_white ys → has_fault_from Plain (xs ++ ys) ≡ (has_foreign_byte true xs || has_fault_from Plain ys)
unfolding has_fault_from has_foreign_byte
white_bytes [] ys h stops = refl
white_bytes (x ∷ xs) ys h stops =
    let both = and_parts (is_white x) (list_all is_white xs) h in
    let more = white_bytes xs ys both.1 stops in
    rw (white_calm x both.0, same_next xs ys stops, more) (or_assoc (not (is_allowed true x xs)) (has_foreign_byte true xs) (has_fault_from Plain ys))

white_piece : (c : ℕ) (rest : List ℕ) (p : Piece) → is_white c ≡ true → p.len ≡ prefix_len is_white (c ∷ rest) → ((bytes : List ℕ) → is_foreign p.sort bytes ≡ has_foreign_byte true bytes) → Fits (c ∷ rest) p
white_piece c rest p h len same =
    let n = prefix_len is_white (c ∷ rest) in
    let main = ap (has_fault_from Plain) (sym (take-append-drop n (c ∷ rest)))
    ∙ white_bytes (take n (c ∷ rest)) (drop n (c ∷ rest)) (prefix_passes is_white (c ∷ rest)) (prefix_stops is_white (c ∷ rest)) in
    let some : 0 < n = rw h (omega arith) in
    (rw (same (take p.len (c ∷ rest)), len) main, omega (arith, len, some))

-- comments

in_comment : (xs : List ℕ) → has_fault_from Comment xs ≡ false
unfolding has_fault_from
in_comment [] = refl
in_comment (x ∷ xs) = in_comment xs

comment_piece : (c : ℕ) (rest : List ℕ) (p : Piece) → (c == 35) ≡ true → p.len ≡ length (c ∷ rest) → ((bytes : List ℕ) → is_foreign p.sort bytes ≡ false) → Fits (c ∷ rest) p
unfolding has_fault_from
comment_piece c rest p h len same =
    let e : c ≡ 35 = eqb-true c 35 h in
    let all : drop p.len (c ∷ rest) ≡ [] = drop_all p.len (c ∷ rest) (omega arith) in
    (rw (same (take p.len (c ∷ rest)), all, e) (in_comment rest), omega arith)

-- texts

-- what is found up to the closing quote, or to the end of the line
abbrev TextFits : ℕ → Bool → List ℕ → Option ℕ → Type 0
TextFits q taken body None = has_fault_from (Text q taken) body ≡ has_foreign_byte false body
TextFits q taken body (Some n) =
    (has_fault_from (Text q taken) body ≡ (has_foreign_byte false (take n body) || has_fault_from Plain (drop n body)))
    × (0 < n)

same_front : (m : ℕ) (rest : List ℕ) → 0 < m → is_line_feed_next (take m rest) ≡ is_line_feed_next rest
same_front zero rest h = absurd (omega arith)
same_front (suc m) [] h = refl
same_front (suc m) (r ∷ rest) h = refl

quote_allowed : (q : ℕ) (rest : List ℕ) → is_quote q ≡ true → is_allowed false q rest ≡ true
quote_allowed q rest h = elim (or_cases (q == 39) (q == 34) h) [
  | inl e ↦ rw (eqb-true q 39 e) refl
  | inr e ↦ rw (eqb-true q 34 e) refl
]

text_step : (q : ℕ) (taken : Bool) (c : ℕ) (rest : List ℕ) (o : Option ℕ) → (not taken && c == q) ≡ false → TextFits q (not taken && c == 92) rest o → TextFits q taken (c ∷ rest) (option_map (λ n. n + 1) o)
unfolding has_fault_from has_foreign_byte
text_step q taken c rest None other more = rw other (ap (λ b. not (is_allowed false c rest) || b) more)
text_step q taken c rest (Some n) other more =
    (rw (other, add-one, more.0, same_front n rest more.1) (or_assoc (not (is_allowed false c rest)) (has_foreign_byte false (take n rest)) (has_fault_from Plain (drop n rest))), omega arith)

text_closed : (q : ℕ) (taken : Bool) (c : ℕ) (rest : List ℕ) → is_quote q ≡ true → (not taken && c == q) ≡ true → TextFits q taken (c ∷ rest) (Some 1)
unfolding has_fault_from has_foreign_byte
text_closed q taken c rest quote here =
    let same : c ≡ q = eqb-true c q (and_parts (not taken) (c == q) here).1 in
    (rw (here, same, quote_allowed q rest quote, quote_allowed q [] quote) refl, omega arith)

text_bytes : (q : ℕ) → is_quote q ≡ true → (taken : Bool) (body : List ℕ) → TextFits q taken body (closing q taken body)
unfolding closing has_fault_from has_foreign_byte
text_bytes q quote taken [] = refl
text_bytes q quote taken (c ∷ rest) =
    cond_both (not taken && c == q) (Some 1) (option_map (λ n. n + 1) (closing q (not taken && c == 92) rest)) (TextFits q taken (c ∷ rest))
    (λ here. text_closed q taken c rest quote here)
    (λ other. text_step q taken c rest (closing q (not taken && c == 92) rest) other (text_bytes q quote (not taken && c == 92) rest))

text_outside : (rest : List ℕ) (n : ℕ) → IsOutside (text_to rest (Some n)).sort
text_outside rest n = cond_both (has_wrong_escape false (take n rest)) _ _ IsOutside (λ wrong. λ bytes. refl) (λ right. λ bytes. refl)

quote_calm : (c : ℕ) (rest : List ℕ) → is_quote c ≡ true → (is_allowed true c rest ≡ true) × (mode_behind Plain c ≡ Text c false)
quote_calm c rest h = elim (or_cases (c == 39) (c == 34) h) [
  | inl e ↦ rw (eqb-true c 39 e) (refl, refl)
  | inr e ↦ rw (eqb-true c 34 e) (refl, refl)
]

text_opened : (c : ℕ) (rest : List ℕ) (o : Option ℕ) → is_quote c ≡ true → TextFits c false rest o → Fits (c ∷ rest) (text_to rest o)
unfolding has_fault_from has_foreign_byte
text_opened c rest None quote h =
    let calm = quote_calm c rest quote in
    let one : 1 + length rest ≡ suc (length rest) = omega arith in
    let whole : take (1 + length rest) (c ∷ rest) ≡ c ∷ rest = take_all (1 + length rest) (c ∷ rest) (omega arith) in
    let none : drop (1 + length rest) (c ∷ rest) ≡ [] = drop_all (1 + length rest) (c ∷ rest) (omega arith) in
    (rw (whole, none, calm.0, calm.1, quote_allowed c rest quote, h) (sym (or_none (has_foreign_byte false rest))), omega arith)
text_opened c rest (Some n) quote h =
    let calm = quote_calm c rest quote in
    let one : 1 + n ≡ suc n = omega arith in
    let front : take (1 + n) (c ∷ rest) ≡ c ∷ take n rest = rw one refl in
    let back : drop (1 + n) (c ∷ rest) ≡ drop n rest = rw one refl in
    (rw (text_outside rest n (take (1 + n) (c ∷ rest)), front, back, calm.0, calm.1, quote_allowed c (take n rest) quote, h.0) refl, omega arith)

quote_piece : (c : ℕ) (rest : List ℕ) → is_quote c ≡ true → Fits (c ∷ rest) (text_to rest (closing c false rest))
quote_piece c rest quote = text_opened c rest (closing c false rest) quote (text_bytes c quote false rest)

-- names, numbers and marks

all_so : (p q : ℕ → Bool) (xs : List ℕ) → ((c : ℕ) → p c ≡ true → q c ≡ true) → list_all p xs ≡ true → list_all q xs ≡ true
all_so p q [] so h = refl
all_so p q (x ∷ xs) so h =
    let both = and_parts (p x) (list_all p xs) h in
    and_from (q x) (list_all q xs) (so x both.0) (all_so p q xs so both.1)

within : (low high c : ℕ) → (nat_le low c && nat_le c high) ≡ true → (low ≤ c) × (c ≤ high)
within low high c h = let both = and_parts (nat_le low c) (nat_le c high) h in (leb-true low c both.0, leb-true c high both.1)

digit_fine : (c : ℕ) → is_ascii_digit c ≡ true → fine c ≡ true
digit_fine c h =
    let r = within 48 57 c h in
    fine_from c (omega arith) (omega arith) (λ e. omega arith) (λ e. omega arith) (λ e. omega arith)

letter_fine : (c : ℕ) → is_ascii_alphabetic c ≡ true → fine c ≡ true
letter_fine c h = elim (or_cases (nat_le 65 c && nat_le c 90) (nat_le 97 c && nat_le c 122) h) [
  | inl upper ↦ let r = within 65 90 c upper in fine_from c (omega arith) (omega arith) (λ e. omega arith) (λ e. omega arith) (λ e. omega arith)
  | inr lower ↦ let r = within 97 122 c lower in fine_from c (omega arith) (omega arith) (λ e. omega arith) (λ e. omega arith) (λ e. omega arith)
]

name_fine : (c : ℕ) → is_name_byte c ≡ true → fine c ≡ true
name_fine c h = elim (or_cases (is_name_start c) (is_ascii_digit c) h) [
  | inl start ↦ elim (or_cases (is_ascii_alphabetic c) (c == 95) start) [
    | inl letter ↦ letter_fine c letter
    | inr line ↦ rw (eqb-true c 95 line) refl
  ]
  | inr digit ↦ digit_fine c digit
]

name_piece : (c : ℕ) (rest : List ℕ) → is_name_start c ≡ true → Fits (c ∷ rest) (name_at (c ∷ rest))
unfolding name_at
name_piece c rest h =
    let text = c ∷ rest in
    let byte : is_name_byte c ≡ true = or_left (is_name_start c) (is_ascii_digit c) h in
    let some : 0 < prefix_len is_name_byte text = rw byte (omega arith) in
    fine_piece (name_at text) text (λ bytes. refl) some
    (all_so is_name_byte fine (take (prefix_len is_name_byte text) text) name_fine (prefix_passes is_name_byte text))

number_outside : (text : List ℕ) → IsOutside (number_at text).sort
unfolding number_at
number_outside text =
    let n = digits_len text in
    cond_both (nat_le (number_value (take n text)) 2147483647 && not (is_glued (drop n text))) _ _ IsOutside (λ short. λ bytes. refl) (λ wrong. λ bytes. refl)

number_piece : (c : ℕ) (rest : List ℕ) → is_ascii_digit c ≡ true → Fits (c ∷ rest) (number_at (c ∷ rest))
unfolding number_at
number_piece c rest h =
    let text = c ∷ rest in
    let digits : (list_all is_ascii_digit (take (digits_len text) text) ≡ true) × (0 < digits_len text) =
    cond_both (c == 48) 1 (prefix_len is_ascii_digit text) (λ k. (list_all is_ascii_digit (take k text) ≡ true) × (0 < k))
    (λ zero. (and_from (is_ascii_digit c) true h refl, omega arith))
    (λ other. (prefix_passes is_ascii_digit text, rw h (omega arith))) in
    fine_piece (number_at text) text (number_outside text) digits.1
    (all_so is_ascii_digit fine (take (digits_len text) text) digit_fine digits.0)

front_fine : (ws : List (List ℕ)) (text : List ℕ) → list_all (list_all fine) ws ≡ true → list_all fine (take (first_len ws text) text) ≡ true
front_fine [] text h = refl
front_fine (w ∷ ws) text h =
    let both = and_parts (list_all fine w) (list_all (list_all fine) ws) h in
    cond_both (starts_with nat_eq text w) (length w) (first_len ws text) (λ n. list_all fine (take n text) ≡ true)
    (λ here. let same : w ≡ take (length w) text = (bytes_eq-Decides w (take (length w) text)).0 here in rw (← same) both.0)
    (λ other. front_fine ws text both.1)

mark_fine : (text : List ℕ) → list_all fine (take (mark_len Program text) text) ≡ true
unfolding mark_len
mark_fine text = front_fine (marks Program) text refl

stray_piece : (c : ℕ) (rest : List ℕ) → is_white c ≡ false → (c == 35) ≡ false → is_quote c ≡ false → Fits (c ∷ rest) (sign_by 0 0)
unfolding has_fault_from has_foreign_byte
stray_piece c rest white hash quote =
    let end = or_parts (is_blank c || c == 10) (c == 13) white in
    let feed = or_parts (is_blank c) (c == 10) end.0 in
    let blank = or_parts (c == 9) (c == 32) feed.0 in
    (rw (hash, quote, blank.0, feed.1, end.1) (or_assoc_end (nat_le 32 c && nat_le c 126) (has_fault_from Plain rest)), omega arith)
  where
    or_assoc_end : (a b : Bool) → (not (a || false || false || false) || b) ≡ ((not (a || false || false || false) || false) || b)
    or_assoc_end true b = refl
    or_assoc_end false b = refl

sign_piece : (c : ℕ) (rest : List ℕ) → is_white c ≡ false → (c == 35) ≡ false → is_quote c ≡ false → Fits (c ∷ rest) (sign_at Program (c ∷ rest))
unfolding sign_at
sign_piece c rest white hash quote = by_len (mark_len Program (c ∷ rest)) (mark_fine (c ∷ rest))
  where
    by_len : (m : ℕ) → list_all fine (take m (c ∷ rest)) ≡ true → Fits (c ∷ rest) (sign_by 0 m)
    by_len zero h = stray_piece c rest white hash quote
    by_len (suc m) h = fine_piece (sign_by 0 (suc m)) (c ∷ rest) (λ bytes. refl) (omega arith) h

-- each piece of a line
any_piece : (c : ℕ) (rest : List ℕ) → Fits (c ∷ rest) (piece_at Program (c ∷ rest))
unfolding piece_at
any_piece c rest =
    let text = c ∷ rest in
    let P : Piece → Type 0 = Fits text in
    cond_both (is_white c) _ _ P (λ white. white_piece c rest (piece (piece_at Program []).sort (prefix_len is_white text)) white refl (λ bytes. refl)) (λ not_white.
    cond_both (c == 35) _ _ P (λ hash. comment_piece c rest (piece (piece_at Program (35 ∷ [])).sort (length text)) hash refl (λ bytes. refl)) (λ no_hash.
    cond_both (is_quote c) _ _ P (λ quote. quote_piece c rest quote) (λ no_quote.
    cond_both (is_name_start c) _ _ P (λ name. name_piece c rest name) (λ no_name.
    cond_both (is_ascii_digit c) _ _ P (λ digit. number_piece c rest digit) (λ no_digit.
    sign_piece c rest not_white no_hash no_quote)))))

-- whole lines

abbrev foreign_in : ℕ → ℕ → List ℕ → Bool
foreign_in from taken bytes = list_any (λ p. is_foreign p.sort p.bytes) (parts Program from taken bytes)

anywhere : (bytes : List ℕ) (from other taken : ℕ) → foreign_in from taken bytes ≡ foreign_in other taken bytes
unfolding parts
anywhere [] from other taken = refl
anywhere (c ∷ rest) from other zero = ap (λ b. is_foreign (piece_at Program (c ∷ rest)).sort (take (piece_at Program (c ∷ rest)).len (c ∷ rest)) || b) (anywhere rest (from + 1) (other + 1) ((piece_at Program (c ∷ rest)).len - 1))
anywhere (c ∷ rest) from other (suc n) = anywhere rest (from + 1) (other + 1) n

behind_taken : (bytes : List ℕ) (from n : ℕ) → foreign_in from n bytes ≡ foreign_in 0 0 (drop n bytes)
unfolding parts
behind_taken bytes from zero = anywhere bytes from 0 0
behind_taken [] from (suc n) = refl
behind_taken (c ∷ rest) from (suc n) = behind_taken rest (from + 1) n

first_part : (c : ℕ) (rest : List ℕ) (p : Piece) → p ≡ piece_at Program (c ∷ rest) → 0 < p.len → foreign_in 0 0 (c ∷ rest) ≡ (is_foreign p.sort (take p.len (c ∷ rest)) || foreign_in 0 0 (drop p.len (c ∷ rest)))
unfolding parts
first_part c rest p e some =
    let last : p.len ≡ suc (p.len - 1) = omega arith in
    let back : drop p.len (c ∷ rest) ≡ drop (p.len - 1) rest = ap (λ n. drop n (c ∷ rest)) last in
    rw (← e, back) (ap (λ b. is_foreign p.sort (take p.len (c ∷ rest)) || b) (behind_taken rest 1 (p.len - 1)))

faults_so_far : (k : ℕ) (line : List ℕ) → length line ≤ k → has_fault_from Plain line ≡ foreign_in 0 0 line
unfolding has_fault_from parts
faults_so_far k [] h = refl
faults_so_far zero (c ∷ rest) h = absurd (omega arith)
faults_so_far (suc k) (c ∷ rest) h =
    let p = piece_at Program (c ∷ rest) in
    let fits = any_piece c rest in
    let more = faults_so_far k (drop p.len (c ∷ rest)) (omega (arith, length-drop p.len (c ∷ rest), fits.1)) in
    fits.0 ∙ ap (λ b. is_foreign p.sort (take p.len (c ∷ rest)) || b) more ∙ sym (first_part c rest p refl fits.1)

pub same_faults : (line : List ℕ) → has_fault_from Plain line ≡ has_faulty_byte line
same_faults line = faults_so_far (length line) line (omega arith)

pub same_first : (n : ℕ) (ls : List (List ℕ)) → first_line (has_fault_from Plain) n ls ≡ first_line has_faulty_byte n ls
same_first n [] = refl
same_first n (l ∷ ls) = rw (same_faults l, same_first (n + 1) ls) refl
