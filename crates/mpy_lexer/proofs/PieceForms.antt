-- The piece at a place has the form of its kind.
use Rattle.std.proofs.Common.{◌≡◌, ℕ, zero, suc, ◌+◌, ◌<◌, Bool, true, false, not, ◌&&◌, cond, List, [], ◌∷◌, length, take, drop, eq-eqb, Option, None, Some, refl, arith, eqb, one-add, zero-add, add-one, option_map}
use Rattle.std.specs.Prelude.{nat_eq, nat_le}
use Rattle.std.specs.Char.{is_ascii_digit}
use Rattle.std.specs.Cmp.Lexicographic.{pointwise}
use Rattle.std.specs.List.{prefix_len, list_all, starts_with}
use Rattle.std.proofs.lemmas.Bool.{and_parts, and_from, or_left, or_right}
use Rattle.mpy_lexer.specs.declared.forms.Form.{Form}
use Rattle.mpy_lexer.specs.declared.forms.Form.TheVariants.{Program, Rules}
use Rattle.mpy_lexer.specs.declared.forms.Kind.{Kind}
use Rattle.mpy_lexer.specs.declared.forms.Kind.TheVariants as kind
use Rattle.mpy_lexer.specs.declared.pieces.Sort.TheVariants as sort
use Rattle.mpy_lexer.specs.declared.pieces.Piece.{Piece}
use Rattle.mpy_lexer.specs.Bytes.{is_white, is_quote, is_name_start, is_name_byte, is_meta_letter}
use Rattle.mpy_lexer.specs.Words.{is_reserved, marks, first_len, mark_len}
use Rattle.mpy_lexer.specs.Pieces.{closing, has_wrong_escape, text_to, name_at, number_value, digits_len, is_glued, number_at, one_if, meta_len, meta_len_in, sign_by, sign_at, piece_at}
use Rattle.mpy_lexer.specs.TokenForms.{is_name, is_none_behind, is_number, is_length, is_text, is_meta_end, is_meta, is_one_of, has_form}

-- where a piece is a token, its bytes have the form of the token's kind
abbrev HasForm : Form → Piece → List ℕ → Type 0
HasForm form p text = (k : Kind) → p.sort ≡ sort.Token k → has_form form k (take p.len text) ≡ true

not_true : (b : Bool) → b ≡ false → not b ≡ true
not_true true e = absurd cc
not_true false e = refl

run_case : (test : ℕ → Bool) (x : ℕ) (xs : List ℕ) (b : Bool) → test x ≡ b → list_all test (take (prefix_len test xs) xs) ≡ true → list_all test (take (cond b (1 + prefix_len test xs) 0) (x ∷ xs)) ≡ true
run_case test x xs true e more = rw (one-add, e) more
run_case test x xs false e more = refl

-- the front of a list that passes
pub run_passes : (test : ℕ → Bool) (xs : List ℕ) → list_all test (take (prefix_len test xs) xs) ≡ true
run_passes test [] = refl
run_passes test (x ∷ xs) = run_case test x xs (test x) refl (run_passes test xs)

by_case : (form : Form) (text : List ℕ) (b : Bool) (p q : Piece) → (b ≡ true → HasForm form p text) → (b ≡ false → HasForm form q text) → HasForm form (cond b p q) text
by_case form text true p q t f = t refl
by_case form text false p q t f = f refl

-- names

name_kind : (form : Form) (bytes : List ℕ) (b : Bool) (k : Kind) → is_name bytes ≡ true → is_reserved bytes ≡ b → sort.Token (cond b kind.Reserved kind.Name) ≡ sort.Token k → has_form form k bytes ≡ true
name_kind form bytes true kind.Reserved name r e = r
name_kind form bytes true kind.Name name r e = absurd cc
name_kind form bytes true kind.Number name r e = absurd cc
name_kind form bytes true kind.Text name r e = absurd cc
name_kind form bytes true kind.Mark name r e = absurd cc
name_kind form bytes true kind.Meta name r e = absurd cc
name_kind form bytes false kind.Name name r e = and_from (is_name bytes) (not (is_reserved bytes)) name (not_true (is_reserved bytes) r)
name_kind form bytes false kind.Reserved name r e = absurd cc
name_kind form bytes false kind.Number name r e = absurd cc
name_kind form bytes false kind.Text name r e = absurd cc
name_kind form bytes false kind.Mark name r e = absurd cc
name_kind form bytes false kind.Meta name r e = absurd cc

name_run : (c : ℕ) (rest : List ℕ) → is_name_start c ≡ true → is_name (take (prefix_len is_name_byte (c ∷ rest)) (c ∷ rest)) ≡ true
name_run c rest start =
    let byte : is_name_byte c ≡ true = rw start refl in
    rw (byte, one-add) (and_from (is_name_start c) (list_all is_name_byte (take (prefix_len is_name_byte rest) rest)) start (run_passes is_name_byte rest))

name_form : (form : Form) (c : ℕ) (rest : List ℕ) → is_name_start c ≡ true → HasForm form (name_at (c ∷ rest)) (c ∷ rest)
unfolding name_at
name_form form c rest start k e = let bytes = take (prefix_len is_name_byte (c ∷ rest)) (c ∷ rest) in name_kind form bytes (is_reserved bytes) k (name_run c rest start) refl e

-- numbers

number_from : (c : ℕ) (more : List ℕ) → list_all is_ascii_digit (c ∷ more) ≡ true → is_none_behind c more ≡ true → nat_le (number_value (c ∷ more)) 2147483647 ≡ true → is_number (c ∷ more) ≡ true
number_from c more digits none small = and_from (list_all is_ascii_digit (c ∷ more) && is_none_behind c more) (nat_le (number_value (c ∷ more)) 2147483647) (and_from (list_all is_ascii_digit (c ∷ more)) (is_none_behind c more) digits none) small

none_behind : (c : ℕ) (more : List ℕ) → eqb c 48 ≡ false → is_none_behind c more ≡ true
none_behind c [] e = refl
none_behind c (d ∷ more) e = not_true (eqb c 48) e

number_run : (b : Bool) (c : ℕ) (rest : List ℕ) → eqb c 48 ≡ b → is_ascii_digit c ≡ true → let bytes = take (cond b 1 (prefix_len is_ascii_digit (c ∷ rest))) (c ∷ rest) in nat_le (number_value bytes) 2147483647 ≡ true → is_number bytes ≡ true
number_run true c rest zero_first digit small = number_from c [] (rw digit refl) refl small
number_run false c rest other digit small =
    let run : take (prefix_len is_ascii_digit (c ∷ rest)) (c ∷ rest) ≡ c ∷ take (prefix_len is_ascii_digit rest) rest = rw (digit, one-add) refl in
    let within : nat_le (number_value (c ∷ take (prefix_len is_ascii_digit rest) rest)) 2147483647 ≡ true = rw run at small in
    let digits : list_all is_ascii_digit (c ∷ take (prefix_len is_ascii_digit rest) rest) ≡ true = and_from (is_ascii_digit c) (list_all is_ascii_digit (take (prefix_len is_ascii_digit rest) rest)) digit (run_passes is_ascii_digit rest) in
    rw run (number_from c (take (prefix_len is_ascii_digit rest) rest) digits (none_behind c (take (prefix_len is_ascii_digit rest) rest) other) within)

number_kind : (form : Form) (bytes : List ℕ) (b : Bool) (k : Kind) → (b ≡ true → is_number bytes ≡ true) → cond b (sort.Token kind.Number) sort.Wrong ≡ sort.Token k → has_form form k bytes ≡ true
number_kind form bytes true kind.Number h e = h refl
number_kind form bytes true kind.Name h e = absurd cc
number_kind form bytes true kind.Reserved h e = absurd cc
number_kind form bytes true kind.Text h e = absurd cc
number_kind form bytes true kind.Mark h e = absurd cc
number_kind form bytes true kind.Meta h e = absurd cc
number_kind form bytes false k h e = absurd cc

number_form : (form : Form) (c : ℕ) (rest : List ℕ) → is_ascii_digit c ≡ true → HasForm form (number_at (c ∷ rest)) (c ∷ rest)
unfolding number_at
number_form form c rest digit k e =
    let n = digits_len (c ∷ rest) in
    let bytes = take n (c ∷ rest) in
    let small = nat_le (number_value bytes) 2147483647 in
    let free = not (is_glued (drop n (c ∷ rest))) in
    number_kind form bytes (small && free) k (λ both. number_run (eqb c 48) c rest refl digit (and_parts small free both).0) e

-- texts

map_some : (o : Option ℕ) (n : ℕ) → option_map (λ m. m + 1) o ≡ Some n → (m : ℕ) × (o ≡ Some m) × (n ≡ suc m)
map_some None n e = absurd cc
map_some (Some m) n e = let same : m + 1 ≡ n = cc in (m, refl, omega arith)

closing_case : (quote : ℕ) (taken : Bool) (c : ℕ) (rest : List ℕ) (n : ℕ) (b : Bool) → not taken && eqb c quote ≡ b
    → ((m : ℕ) → closing quote (not taken && eqb c 92) rest ≡ Some m → closing quote (not taken && eqb c 92) (take m rest) ≡ Some (length (take m rest)))
    → cond b (Some 1) (option_map (λ m. m + 1) (closing quote (not taken && eqb c 92) rest)) ≡ Some n → closing quote taken (take n (c ∷ rest)) ≡ Some (length (take n (c ∷ rest)))
unfolding closing
closing_case quote taken c rest n true bare more e =
    let one : n ≡ 1 = cc in
    rw (one, bare) refl
closing_case quote taken c rest n false bare more e =
    let some = map_some (closing quote (not taken && eqb c 92) rest) n e in
    let front = more some.0 some.1 in
    rw (some.2, bare, front, add-one) refl

closing_front : (quote : ℕ) (taken : Bool) (xs : List ℕ) (n : ℕ) → closing quote taken xs ≡ Some n → closing quote taken (take n xs) ≡ Some (length (take n xs))
unfolding closing
closing_front quote taken [] n e = absurd cc
closing_front quote taken (c ∷ rest) n e = closing_case quote taken c rest n (not taken && eqb c quote) refl (λ m. closing_front quote (not taken && eqb c 92) rest m) e

same_length : (n : ℕ) → is_length n (Some n) ≡ true
same_length n = eq-eqb n n refl

text_kind : (form : Form) (bytes : List ℕ) (b : Bool) (k : Kind) → (b ≡ false → is_text bytes ≡ true) → cond b sort.Wrong (sort.Token kind.Text) ≡ sort.Token k → has_form form k bytes ≡ true
text_kind form bytes false kind.Text h e = h refl
text_kind form bytes false kind.Name h e = absurd cc
text_kind form bytes false kind.Reserved h e = absurd cc
text_kind form bytes false kind.Number h e = absurd cc
text_kind form bytes false kind.Mark h e = absurd cc
text_kind form bytes false kind.Meta h e = absurd cc
text_kind form bytes true k h e = absurd cc

text_case : (form : Form) (quote : ℕ) (body : List ℕ) (o : Option ℕ) → is_quote quote ≡ true → closing quote false body ≡ o → HasForm form (text_to body o) (quote ∷ body)
text_case form quote body None opens e k same = absurd cc
text_case form quote body (Some n) opens e k same =
    let inside = take n body in
    let wrong = has_wrong_escape false inside in
    let ends : is_length (length inside) (closing quote false inside) ≡ true = rw (closing_front quote false body n e) (same_length (length inside)) in
    rw one-add (text_kind form (quote ∷ inside) wrong k (λ right. and_from (is_quote quote && is_length (length inside) (closing quote false inside)) (not wrong) (and_from (is_quote quote) (is_length (length inside) (closing quote false inside)) opens ends) (not_true wrong right)) same)

-- marks and metavariables

first_case : (w : List ℕ) (ws : List (List ℕ)) (text : List ℕ) (b : Bool) → starts_with nat_eq text w ≡ b → (0 < first_len ws text → is_one_of ws (take (first_len ws text) text) ≡ true)
    → 0 < cond b (length w) (first_len ws text) → is_one_of (w ∷ ws) (take (cond b (length w) (first_len ws text)) text) ≡ true
first_case w ws text true e more h = or_left (pointwise nat_eq w (take (length w) text)) (is_one_of ws (take (length w) text)) e
first_case w ws text false e more h = or_right (pointwise nat_eq w (take (first_len ws text) text)) (is_one_of ws (take (first_len ws text) text)) (more h)

first_found : (ws : List (List ℕ)) (text : List ℕ) → 0 < first_len ws text → is_one_of ws (take (first_len ws text) text) ≡ true
first_found [] text h = absurd (omega arith)
first_found (w ∷ ws) text h = first_case w ws text (starts_with nat_eq text w) refl (first_found ws text) h

prime_last : (x y : ℕ) (ys : List ℕ) (b : Bool) → is_ascii_digit x ≡ true → eqb y 39 ≡ b → is_meta_end (take (1 + cond b 1 0) (x ∷ y ∷ ys)) ≡ true
prime_last x y ys true digit prime = rw (digit, prime) refl
prime_last x y ys false digit prime = or_left (is_ascii_digit x) (eqb x 39) digit

prime_alone : (x : ℕ) (xs : List ℕ) (b : Bool) → eqb x 39 ≡ b → is_meta_end (take (cond b 1 0) (x ∷ xs)) ≡ true
prime_alone x xs true prime = or_right (is_ascii_digit x) (eqb x 39) prime
prime_alone x xs false prime = refl

end_case : (x : ℕ) (xs : List ℕ) (b : Bool) → is_ascii_digit x ≡ b → is_meta_end (take (cond b 1 0 + one_if (λ p. eqb p 39) (drop (cond b 1 0) (x ∷ xs))) (x ∷ xs)) ≡ true
end_case x [] true digit = or_left (is_ascii_digit x) (eqb x 39) digit
end_case x (y ∷ ys) true digit = prime_last x y ys (eqb y 39) digit refl
end_case x xs false digit = rw zero-add (prime_alone x xs (eqb x 39) refl)

end_len : List ℕ → ℕ
end_len rest = one_if is_ascii_digit rest + one_if (λ p. eqb p 39) (drop (one_if is_ascii_digit rest) rest)

meta_end : (rest : List ℕ) → is_meta_end (take (end_len rest) rest) ≡ true
unfolding end_len
meta_end [] = refl
meta_end (x ∷ xs) = end_case x xs (is_ascii_digit x) refl

meta_case : (c letter : ℕ) (rest : List ℕ) (b : Bool) → eqb c 36 && is_meta_letter letter ≡ b → let n = cond b (2 + one_if is_ascii_digit rest + one_if (λ p. eqb p 39) (drop (one_if is_ascii_digit rest) rest)) 0 in 0 < n → is_meta (take n (c ∷ letter ∷ rest)) ≡ true
unfolding end_len
meta_case c letter rest true e h =
    let n : 2 + one_if is_ascii_digit rest + one_if (λ p. eqb p 39) (drop (one_if is_ascii_digit rest) rest) ≡ suc (suc (end_len rest)) = omega arith in
    rw n (and_from (eqb c 36 && is_meta_letter letter) (is_meta_end (take (end_len rest) rest)) e (meta_end rest))
meta_case c letter rest false e h = absurd (omega arith)

meta_found : (text : List ℕ) → 0 < meta_len text → is_meta (take (meta_len text) text) ≡ true
meta_found [] h = absurd (omega arith)
meta_found (c ∷ []) h = absurd (omega arith)
meta_found (c ∷ letter ∷ rest) h = meta_case c letter rest (eqb c 36 && is_meta_letter letter) refl h

meta_form : (form : Form) (text : List ℕ) (n : ℕ) → meta_len_in form text ≡ suc n → has_form form kind.Meta (take (suc n) text) ≡ true
meta_form Program text n e = absurd (omega arith)
meta_form Rules text n e = rw (← e) (meta_found text (omega arith))

mark_form : (form : Form) (text : List ℕ) (n : ℕ) → mark_len form text ≡ suc n → has_form form kind.Mark (take (suc n) text) ≡ true
unfolding mark_len
mark_form form text n e = rw (← e) (first_found (marks form) text (omega arith))

sign_case : (form : Form) (text : List ℕ) (meta mark : ℕ) → meta_len_in form text ≡ meta → mark_len form text ≡ mark → HasForm form (sign_by meta mark) text
sign_case form text (suc n) mark e f kind.Meta same = meta_form form text n e
sign_case form text (suc n) mark e f kind.Name same = absurd cc
sign_case form text (suc n) mark e f kind.Reserved same = absurd cc
sign_case form text (suc n) mark e f kind.Number same = absurd cc
sign_case form text (suc n) mark e f kind.Text same = absurd cc
sign_case form text (suc n) mark e f kind.Mark same = absurd cc
sign_case form text zero (suc n) e f kind.Mark same = mark_form form text n f
sign_case form text zero (suc n) e f kind.Name same = absurd cc
sign_case form text zero (suc n) e f kind.Reserved same = absurd cc
sign_case form text zero (suc n) e f kind.Number same = absurd cc
sign_case form text zero (suc n) e f kind.Text same = absurd cc
sign_case form text zero (suc n) e f kind.Meta same = absurd cc
sign_case form text zero zero e f k same = absurd cc

sign_form : (form : Form) (text : List ℕ) → HasForm form (sign_at form text) text
unfolding sign_at
sign_form form text = sign_case form text (meta_len_in form text) (mark_len form text) refl refl

piece_forms : (form : Form) (text : List ℕ) → HasForm form (piece_at form text) text
unfolding piece_at
piece_forms form [] = λ k e. absurd cc
piece_forms form (c ∷ rest) =
    by_case form (c ∷ rest) (is_white c) _ _ (λ _ k e. absurd cc)
    (λ _. by_case form (c ∷ rest) (eqb c 35) _ _ (λ _ k e. absurd cc)
    (λ _. by_case form (c ∷ rest) (is_quote c) _ _ (λ opens. text_case form c rest (closing c false rest) opens refl)
    (λ _. by_case form (c ∷ rest) (is_name_start c) _ _ (λ start. name_form form c rest start)
    (λ _. by_case form (c ∷ rest) (is_ascii_digit c) _ _ (λ digit. number_form form c rest digit)
    (λ _. sign_form form (c ∷ rest))))))

pub piece_form : (form : Form) (text : List ℕ) (k : Kind) → (piece_at form text).sort ≡ sort.Token k → has_form form k (take (piece_at form text).len text) ≡ true
piece_form form text k e = piece_forms form text k e
