-- At each place of a line a piece of at least one byte begins.
use Rattle.std.proofs.Common.{◌≡◌, ℕ, zero, suc, ◌+◌, ◌-◌, ◌<◌, ◌≤◌, Bool, true, false, not, ◌&&◌, cond, List, [], ◌∷◌, length, take, drop, length-take, length-drop, Option, None, Some, option_map, refl, sym, ap, arith, eqb}
use Rattle.std.specs.Prelude.{nat_eq}
use Rattle.std.specs.Char.{is_ascii_digit}
use Rattle.std.specs.List.{prefix_len, starts_with}
use Rattle.std.specs.Cmp.Lexicographic.{same_text}
use Rattle.std.proofs.lemmas.List.Sums.{prefix_len-le-length}
use Rattle.mpy_lexer.specs.declared.forms.Form.{Form}
use Rattle.mpy_lexer.specs.declared.forms.Form.TheVariants.{Program, Rules}
use Rattle.mpy_lexer.specs.declared.pieces.Piece.{Piece}
use Rattle.mpy_lexer.specs.Bytes.{is_white, is_quote, is_name_start, is_name_byte, is_meta_letter}
use Rattle.mpy_lexer.specs.Words.{marks, first_len, mark_len}
use Rattle.mpy_lexer.specs.Pieces.{closing, text_to, name_at, number_at, one_if, meta_len, meta_len_in, sign_by, sign_at, piece_at}

by_cases : (b : Bool) (p q : Piece) → (b ≡ true → 0 < p.len) → (b ≡ false → 0 < q.len) → 0 < (cond b p q).len
by_cases true p q passes fails = passes refl
by_cases false p q passes fails = fails refl

prefix_some : (test : ℕ → Bool) (c : ℕ) (rest : List ℕ) → test c ≡ true → 0 < prefix_len test (c ∷ rest)
prefix_some test c rest passes = rw passes (omega arith)

text_some : (body : List ℕ) (o : Option ℕ) → 0 < (text_to body o).len
text_some body None = omega arith
text_some body (Some n) = omega arith

name_some : (c : ℕ) (rest : List ℕ) → is_name_start c ≡ true → 0 < (name_at (c ∷ rest)).len
unfolding name_at
name_some c rest passes = let both : is_name_byte c ≡ true = rw passes refl in prefix_some is_name_byte c rest both

digits_some : (b : Bool) (n : ℕ) → 0 < n → 0 < cond b 1 n
digits_some true n h = omega arith
digits_some false n h = h

number_some : (c : ℕ) (rest : List ℕ) → is_ascii_digit c ≡ true → 0 < (number_at (c ∷ rest)).len
unfolding number_at
number_some c rest passes = digits_some (eqb c 48) (prefix_len is_ascii_digit (c ∷ rest)) (prefix_some is_ascii_digit c rest passes)

sign_by_some : (meta mark : ℕ) → 0 < (sign_by meta mark).len
sign_by_some (suc meta) mark = omega arith
sign_by_some zero (suc mark) = omega arith
sign_by_some zero zero = omega arith

sign_some : (form : Form) (text : List ℕ) → 0 < (sign_at form text).len
unfolding sign_at
sign_some form text = sign_by_some (meta_len_in form text) (mark_len form text)

piece_some : (form : Form) (c : ℕ) (rest : List ℕ) → 0 < (piece_at form (c ∷ rest)).len
unfolding piece_at
piece_some form c rest =
    by_cases (is_white c) _ _ (λ passes. prefix_some is_white c rest passes)
    (λ _. by_cases (eqb c 35) _ _ (λ _. omega arith)
    (λ _. by_cases (is_quote c) _ _ (λ _. text_some rest (closing c false rest))
    (λ _. by_cases (is_name_start c) _ _ (λ passes. name_some c rest passes)
    (λ _. by_cases (is_ascii_digit c) _ _ (λ passes. number_some c rest passes)
    (λ _. sign_some form (c ∷ rest))))))

pub at_front : (form : Form) (text : List ℕ) → 0 < length text → 0 < (piece_at form text).len
at_front form [] h = absurd (omega arith)
at_front form (c ∷ rest) h = piece_some form c rest

-- and it ends within the line

within_case : (b : Bool) (n : ℕ) (p q : Piece) → (b ≡ true → p.len ≤ n) → (b ≡ false → q.len ≤ n) → (cond b p q).len ≤ n
within_case true n p q passes fails = passes refl
within_case false n p q passes fails = fails refl

closing_case : (b : Bool) (o : Option ℕ) (n most : ℕ) → ((i : ℕ) → o ≡ Some i → i ≤ most) → cond b (Some 1) (option_map (λ i. i + 1) o) ≡ Some n → n ≤ suc most
closing_case true o n most more e = let one : 1 ≡ n = cc in omega (arith, one)
closing_case false None n most more e = absurd cc
closing_case false (Some i) n most more e = let one : i + 1 ≡ n = cc in let less = more i refl in omega (arith, one, less)

closing_within : (quote : ℕ) (taken : Bool) (body : List ℕ) (n : ℕ) → closing quote taken body ≡ Some n → n ≤ length body
unfolding closing
closing_within quote taken [] n e = absurd cc
closing_within quote taken (c ∷ rest) n e =
    closing_case (not taken && eqb c quote) (closing quote (not taken && eqb c 92) rest) n (length rest) (λ i f. closing_within quote (not taken && eqb c 92) rest i f) e

text_within : (quote : ℕ) (body : List ℕ) (o : Option ℕ) → closing quote false body ≡ o → (text_to body o).len ≤ length (quote ∷ body)
text_within quote body None e = omega arith
text_within quote body (Some n) e = let less = closing_within quote false body n e in omega (arith, less)

name_within : (text : List ℕ) → (name_at text).len ≤ length text
unfolding name_at
name_within text = prefix_len-le-length is_name_byte text

digits_case : (b : Bool) (c : ℕ) (rest : List ℕ) → cond b 1 (prefix_len is_ascii_digit (c ∷ rest)) ≤ length (c ∷ rest)
digits_case true c rest = omega arith
digits_case false c rest = prefix_len-le-length is_ascii_digit (c ∷ rest)

number_within : (c : ℕ) (rest : List ℕ) → (number_at (c ∷ rest)).len ≤ length (c ∷ rest)
unfolding number_at
number_within c rest = digits_case (eqb c 48) c rest

one_within : (b : Bool) (n : ℕ) → cond b 1 0 ≤ suc n
one_within true n = omega arith
one_within false n = omega arith

one_if_within : (test : ℕ → Bool) (xs : List ℕ) → one_if test xs ≤ length xs
one_if_within test [] = omega arith
one_if_within test (x ∷ xs) = one_within (test x) (length xs)

meta_case : (b : Bool) (letter : ℕ) (rest : List ℕ) → cond b (2 + one_if is_ascii_digit rest + one_if (λ p. eqb p 39) (drop (one_if is_ascii_digit rest) rest)) 0 ≤ suc (suc (length rest))
meta_case true letter rest =
    let digit = one_if_within is_ascii_digit rest in
    let prime = one_if_within (λ p. eqb p 39) (drop (one_if is_ascii_digit rest) rest) in
    let left = length-drop (one_if is_ascii_digit rest) rest in
    omega (arith, digit, prime, left)
meta_case false letter rest = omega arith

meta_within : (text : List ℕ) → meta_len text ≤ length text
meta_within [] = omega arith
meta_within (c ∷ []) = omega arith
meta_within (c ∷ letter ∷ rest) = meta_case (eqb c 36 && is_meta_letter letter) letter rest

meta_in_within : (form : Form) (text : List ℕ) → meta_len_in form text ≤ length text
meta_in_within Program text = omega arith
meta_in_within Rules text = meta_within text

first_case : (b : Bool) (w text : List ℕ) (n : ℕ) → starts_with nat_eq text w ≡ b → n ≤ length text → cond b (length w) n ≤ length text
first_case true w text n e less =
    let same : length w ≡ length (take (length w) text) = ap length (same_text w (take (length w) text) (sym e)) in
    let len = length-take (length w) text in
    omega (arith, same, len)
first_case false w text n e less = less

first_within : (ws : List (List ℕ)) (text : List ℕ) → first_len ws text ≤ length text
first_within [] text = omega arith
first_within (w ∷ ws) text = first_case (starts_with nat_eq text w) w text (first_len ws text) refl (first_within ws text)

mark_within : (form : Form) (text : List ℕ) → mark_len form text ≤ length text
unfolding mark_len
mark_within form text = first_within (marks form) text

sign_case : (meta mark n : ℕ) → meta ≤ suc n → mark ≤ suc n → (sign_by meta mark).len ≤ suc n
sign_case (suc meta) mark n h g = h
sign_case zero (suc mark) n h g = g
sign_case zero zero n h g = omega arith

sign_within : (form : Form) (c : ℕ) (rest : List ℕ) → (sign_at form (c ∷ rest)).len ≤ length (c ∷ rest)
unfolding sign_at
sign_within form c rest = sign_case (meta_len_in form (c ∷ rest)) (mark_len form (c ∷ rest)) (length rest) (meta_in_within form (c ∷ rest)) (mark_within form (c ∷ rest))

pub piece_within : (form : Form) (text : List ℕ) → (piece_at form text).len ≤ length text
unfolding piece_at
piece_within form [] = omega arith
piece_within form (c ∷ rest) =
    within_case (is_white c) (length (c ∷ rest)) _ _ (λ _. prefix_len-le-length is_white (c ∷ rest))
    (λ _. within_case (eqb c 35) (length (c ∷ rest)) _ _ (λ _. omega arith)
    (λ _. within_case (is_quote c) (length (c ∷ rest)) _ _ (λ _. text_within c rest (closing c false rest) refl)
    (λ _. within_case (is_name_start c) (length (c ∷ rest)) _ _ (λ _. name_within (c ∷ rest))
    (λ _. within_case (is_ascii_digit c) (length (c ∷ rest)) _ _ (λ _. number_within c rest)
    (λ _. sign_within form c rest)))))

-- what is left of a line gets shorter
pub shorter : (form : Form) (at : ℕ) (line : List ℕ) (p : Piece) → at < length line → p ≡ piece_at form (drop at line) → length line - (at + p.len) < length line - at
shorter form at line p h e =
    let left : 0 < length (drop at line) = omega (arith, length-drop {A = ℕ}) in
    let some : 0 < p.len = rw e (at_front form (drop at line) left) in
    omega arith
