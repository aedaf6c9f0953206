-- The piece at a place is the longest form that begins there.
use Rattle.std.proofs.Common.{◌≡◌, ℕ, zero, suc, ◌+◌, ◌<◌, ◌≤◌, Bool, true, false, not, ◌&&◌, ◌||◌, cond, List, [], ◌∷◌, length, take, drop, Option, Some, None, option_map, refl, sym, ap, ◌∙◌, arith, eqb, one-add}
use Rattle.std.specs.Prelude.{nat_eq, nat_le}
use Rattle.std.specs.Char.{is_ascii_digit}
use Rattle.std.specs.List.{prefix_len, list_all, starts_with}
use Rattle.std.specs.Cmp.Lexicographic.{pointwise, same_text}
use Rattle.std.proofs.lemmas.Bool.{and_parts, and_from, eq-eqb, eqb-true, leb-true}
use Rattle.std.proofs.lemmas.Bool.Decides.{nat_tests}
use Rattle.std.proofs.lemmas.List.{length-take-le}
use Rattle.mpy_lexer.specs.declared.forms.Form.{Form}
use Rattle.mpy_lexer.specs.declared.forms.Form.TheVariants.{Program, Rules}
use Rattle.mpy_lexer.specs.declared.forms.Kind.{Kind}
use Rattle.mpy_lexer.specs.declared.forms.Kind.TheVariants as kind
use Rattle.mpy_lexer.specs.declared.pieces.Sort.TheVariants as sort
use Rattle.mpy_lexer.specs.declared.pieces.Piece.{Piece}
use Rattle.mpy_lexer.specs.Bytes.{is_white, is_quote, is_name_start, is_name_byte, is_meta_letter}
use Rattle.mpy_lexer.specs.Words.{is_reserved, marks, first_len, mark_len}
use Rattle.mpy_lexer.specs.Pieces.{closing, has_wrong_escape, text_to, name_at, number_value, digits_len, number_at, one_if, meta_len, meta_len_in, sign_by, sign_at, piece_at}
use Rattle.mpy_lexer.specs.TokenForms.{is_name, is_none_behind, is_number, is_length, is_text, is_meta_end, is_meta, is_one_of, has_form}
use Rattle.mpy_lexer.specs.TokenLaws.{IsLongest}
use Rattle.mpy_lexer.proofs.WordLaws.{one_of, each_passes, reserved_is_name}

-- the piece is a token only where no longer front of the text has the form of one
abbrev Reaches : Form → Piece → List ℕ → Type 0
Reaches form p text = (kd : Kind) → p.sort ≡ sort.Token kd → IsLongest form text p.len

refused : (b : Bool) → (b ≡ true → ⊥) → b ≡ false
refused true h = absurd (h refl)
refused false h = refl

by_case : (form : Form) (text : List ℕ) (b : Bool) (p q : Piece) → (b ≡ true → Reaches form p text) → (b ≡ false → Reaches form q text) → Reaches form (cond b p q) text
by_case form text true p q t f = t refl
by_case form text false p q t f = f refl

-- a front that passes is no longer than the longest one
run_longest : (test : ℕ → Bool) (xs : List ℕ) (m : ℕ) → list_all test (take m xs) ≡ true → m ≤ length xs → m ≤ prefix_len test xs
run_longest test xs zero all h = omega arith
run_longest test [] (suc m) all h = absurd (omega arith)
run_longest test (x ∷ xs) (suc m) all h =
    let parts = and_parts (test x) (list_all test (take m xs)) all in
    let more = run_longest test xs m parts.1 (omega arith) in
    rw (parts.0, one-add) (omega (arith, more))

-- the first byte of each form

name_first : (c : ℕ) (rest : List ℕ) → is_name (c ∷ rest) ≡ true → is_name_start c ≡ true
name_first c rest h = (and_parts (is_name_start c) (list_all is_name_byte rest) h).0

number_first : (c : ℕ) (rest : List ℕ) → is_number (c ∷ rest) ≡ true → is_ascii_digit c ≡ true
number_first c rest h =
    let digits = (and_parts (list_all is_ascii_digit (c ∷ rest)) (is_none_behind c rest) (and_parts (list_all is_ascii_digit (c ∷ rest) && is_none_behind c rest) (nat_le (number_value (c ∷ rest)) 2147483647) h).0).0 in
    (and_parts (is_ascii_digit c) (list_all is_ascii_digit rest) digits).0

text_first : (c : ℕ) (rest : List ℕ) → is_text (c ∷ rest) ≡ true → is_quote c ≡ true
text_first c rest h = (and_parts (is_quote c) (is_length (length rest) (closing c false rest)) (and_parts (is_quote c && is_length (length rest) (closing c false rest)) (not (has_wrong_escape false rest)) h).0).0

is_sign : ℕ → Bool
is_sign c = not (is_quote c || is_name_start c || is_ascii_digit c || eqb c 36)

begins_as_sign : List ℕ → Bool
begins_as_sign [] = false
begins_as_sign (c ∷ rest) = is_sign c

signs : (form : Form) → list_all begins_as_sign (marks form) ≡ true
unfolding is_sign begins_as_sign
signs Program = refl
signs Rules = refl

mark_first : (form : Form) (c : ℕ) (rest : List ℕ) → is_one_of (marks form) (c ∷ rest) ≡ true → is_sign c ≡ true
unfolding begins_as_sign
mark_first form c rest h = one_of (λ w. begins_as_sign w ≡ true) (marks form) (c ∷ rest) (each_passes begins_as_sign (marks form) (signs form)) h

meta_first : (c : ℕ) (rest : List ℕ) → is_meta (c ∷ rest) ≡ true → eqb c 36 ≡ true
meta_first c [] h = absurd cc
meta_first c (letter ∷ rest) h = (and_parts (eqb c 36) (is_meta_letter letter) (and_parts (eqb c 36 && is_meta_letter letter) (is_meta_end rest) h).0).0

-- the first byte tells a quote, a name, digits and a sign apart

quote_start : (c : ℕ) → is_quote c ≡ true → is_name_start c ≡ true → ⊥
quote_start c h g = grind (arith, nat_tests)

quote_digit : (c : ℕ) → is_quote c ≡ true → is_ascii_digit c ≡ true → ⊥
quote_digit c h g = grind (arith, nat_tests)

quote_dollar : (c : ℕ) → is_quote c ≡ true → eqb c 36 ≡ true → ⊥
quote_dollar c h g = grind (arith, nat_tests)

start_digit : (c : ℕ) → is_name_start c ≡ true → is_ascii_digit c ≡ true → ⊥
start_digit c h g = grind (arith, nat_tests)

start_dollar : (c : ℕ) → is_name_start c ≡ true → eqb c 36 ≡ true → ⊥
start_dollar c h g = grind (arith, nat_tests)

digit_dollar : (c : ℕ) → is_ascii_digit c ≡ true → eqb c 36 ≡ true → ⊥
digit_dollar c h g = grind (arith, nat_tests)

sign_parts : (a b d e : Bool) → not (a || b || d || e) ≡ true → (a ≡ true → ⊥) × (b ≡ true → ⊥) × (d ≡ true → ⊥) × (e ≡ true → ⊥)
sign_parts false false false false h = (λ x. absurd cc, λ x. absurd cc, λ x. absurd cc, λ x. absurd cc)
sign_parts true b d e h = absurd cc
sign_parts false true d e h = absurd cc
sign_parts false false true e h = absurd cc
sign_parts false false false true h = absurd cc

no_signs : (c : ℕ) → is_sign c ≡ true → (is_quote c ≡ true → ⊥) × (is_name_start c ≡ true → ⊥) × (is_ascii_digit c ≡ true → ⊥) × (eqb c 36 ≡ true → ⊥)
unfolding is_sign
no_signs c h = sign_parts (is_quote c) (is_name_start c) (is_ascii_digit c) (eqb c 36) h

plain_name : (word : List ℕ) → is_name word && not (is_reserved word) ≡ true → is_name word ≡ true
plain_name word h = (and_parts (is_name word) (not (is_reserved word)) h).0

-- what a form says of its first byte
abbrev FirstOf : Form → Kind → ℕ → Type 0
FirstOf form kind.Name c = is_name_start c ≡ true
FirstOf form kind.Reserved c = is_name_start c ≡ true
FirstOf form kind.Number c = is_ascii_digit c ≡ true
FirstOf form kind.Text c = is_quote c ≡ true
FirstOf form kind.Mark c = is_sign c ≡ true
FirstOf form kind.Meta c = eqb c 36 ≡ true

first_of : (form : Form) (kd : Kind) (c : ℕ) (rest : List ℕ) → has_form form kd (c ∷ rest) ≡ true → FirstOf form kd c
first_of form kind.Name c rest h = name_first c rest (plain_name (c ∷ rest) h)
first_of form kind.Reserved c rest h = name_first c rest (reserved_is_name (c ∷ rest) h)
first_of form kind.Number c rest h = number_first c rest h
first_of form kind.Text c rest h = text_first c rest h
first_of form kind.Mark c rest h = mark_first form c rest h
first_of Program kind.Meta c rest h = absurd cc
first_of Rules kind.Meta c rest h = meta_first c rest h

-- a front of a text that isn't empty begins with its first byte
front_first : (form : Form) (kd : Kind) (c m : ℕ) (rest : List ℕ) → 0 < m → has_form form kd (take m (c ∷ rest)) ≡ true → FirstOf form kd c
front_first form kd c zero rest some h = absurd (omega arith)
front_first form kd c (suc m) rest some h = first_of form kd c (take m rest) h

-- names

name_bytes : (word : List ℕ) → is_name word ≡ true → list_all is_name_byte word ≡ true
name_bytes [] h = absurd cc
name_bytes (c ∷ rest) h =
    let parts = and_parts (is_name_start c) (list_all is_name_byte rest) h in
    let byte : is_name_byte c ≡ true = rw parts.0 refl in
    and_from (is_name_byte c) (list_all is_name_byte rest) byte parts.1

name_end : (text : List ℕ) (m : ℕ) → is_name (take m text) ≡ true → m ≤ length text → m ≤ prefix_len is_name_byte text
name_end text m h within = run_longest is_name_byte text m (name_bytes (take m text) h) within

name_longer : (form : Form) (kd : Kind) (c m : ℕ) (rest : List ℕ) → is_name_start c ≡ true → prefix_len is_name_byte (c ∷ rest) < m → m ≤ length (c ∷ rest) → has_form form kd (take m (c ∷ rest)) ≡ true → ⊥
name_longer form kind.Name c m rest start more within h =
    let most = name_end (c ∷ rest) m (plain_name (take m (c ∷ rest)) h) within in omega (arith, most, more)
name_longer form kind.Reserved c m rest start more within h =
    let most = name_end (c ∷ rest) m (reserved_is_name (take m (c ∷ rest)) h) within in omega (arith, most, more)
name_longer form kind.Number c m rest start more within h = start_digit c start (front_first form kind.Number c m rest (omega arith) h)
name_longer form kind.Text c m rest start more within h = quote_start c (front_first form kind.Text c m rest (omega arith) h) start
name_longer form kind.Mark c m rest start more within h = (no_signs c (front_first form kind.Mark c m rest (omega arith) h)).1 start
name_longer form kind.Meta c m rest start more within h = start_dollar c start (front_first form kind.Meta c m rest (omega arith) h)

name_reaches : (form : Form) (c : ℕ) (rest : List ℕ) → is_name_start c ≡ true → Reaches form (name_at (c ∷ rest)) (c ∷ rest)
unfolding name_at
name_reaches form c rest start kd e m more within other = refused (has_form form other (take m (c ∷ rest))) (λ h. name_longer form other c m rest start more within h)

-- numbers

number_parts : (c : ℕ) (rest : List ℕ) → is_number (c ∷ rest) ≡ true → (list_all is_ascii_digit (c ∷ rest) ≡ true) × (is_none_behind c rest ≡ true)
number_parts c rest h = and_parts (list_all is_ascii_digit (c ∷ rest)) (is_none_behind c rest) (and_parts (list_all is_ascii_digit (c ∷ rest) && is_none_behind c rest) (nat_le (number_value (c ∷ rest)) 2147483647) h).0

number_end : (b : Bool) (c : ℕ) (rest : List ℕ) (m : ℕ) → eqb c 48 ≡ b → is_number (take m (c ∷ rest)) ≡ true → m ≤ length (c ∷ rest) → m ≤ cond b 1 (prefix_len is_ascii_digit (c ∷ rest))
number_end b c rest zero e h within = omega arith
number_end true c rest (suc zero) e h within = omega arith
number_end true c [] (suc (suc m)) e h within = absurd (omega arith)
number_end true c (d ∷ rest) (suc (suc m)) e h within =
    let none : not (eqb c 48) ≡ true = (number_parts c (d ∷ take m rest) h).1 in absurd cc
number_end false c rest (suc m) e h within = run_longest is_ascii_digit (c ∷ rest) (suc m) (number_parts c (take m rest) h).0 within

number_longer : (form : Form) (kd : Kind) (c m : ℕ) (rest : List ℕ) → is_ascii_digit c ≡ true → digits_len (c ∷ rest) < m → m ≤ length (c ∷ rest) → has_form form kd (take m (c ∷ rest)) ≡ true → ⊥
number_longer form kind.Number c m rest digit more within h =
    let most = number_end (eqb c 48) c rest m refl h within in omega (arith, most, more)
number_longer form kind.Name c m rest digit more within h = start_digit c (front_first form kind.Name c m rest (omega arith) h) digit
number_longer form kind.Reserved c m rest digit more within h = start_digit c (front_first form kind.Reserved c m rest (omega arith) h) digit
number_longer form kind.Text c m rest digit more within h = quote_digit c (front_first form kind.Text c m rest (omega arith) h) digit
number_longer form kind.Mark c m rest digit more within h = (no_signs c (front_first form kind.Mark c m rest (omega arith) h)).2 digit
number_longer form kind.Meta c m rest digit more within h = digit_dollar c digit (front_first form kind.Meta c m rest (omega arith) h)

number_reaches : (form : Form) (c : ℕ) (rest : List ℕ) → is_ascii_digit c ≡ true → Reaches form (number_at (c ∷ rest)) (c ∷ rest)
unfolding number_at
number_reaches form c rest digit kd e m more within other = refused (has_form form other (take m (c ∷ rest))) (λ h. number_longer form other c m rest digit more within h)

-- texts

closing_further_case : (quote : ℕ) (c : ℕ) (rest : List ℕ) (n m : ℕ) (b d : Bool) → cond b (Some 1) (option_map (λ i. i + 1) (closing quote d rest)) ≡ Some n → n ≤ suc m
    → ((i : ℕ) → closing quote d rest ≡ Some i → i ≤ m → closing quote d (take m rest) ≡ Some i)
    → cond b (Some 1) (option_map (λ i. i + 1) (closing quote d (take m rest))) ≡ Some n
closing_further_case quote c rest n m true d e h more = e
closing_further_case quote c rest n m false d e h more = closed (closing quote d rest) refl e
  where
    closed : (o : Option ℕ) → closing quote d rest ≡ o → option_map (λ i. i + 1) o ≡ Some n → option_map (λ i. i + 1) (closing quote d (take m rest)) ≡ Some n
    closed None f g = absurd cc
    closed (Some i) f g =
        let same : i + 1 ≡ n = cc in
        rw (more i f (omega (arith, same, h))) g

some_closing : (b : Bool) (o : Option ℕ) (n : ℕ) → cond b (Some 1) (option_map (λ i. i + 1) o) ≡ Some n → 0 < n
some_closing true o n f = let one : 1 ≡ n = cc in omega (arith, one)
some_closing false None n f = absurd cc
some_closing false (Some i) n f = let one : i + 1 ≡ n = cc in omega (arith, one)

closing_some : (quote : ℕ) (taken : Bool) (body : List ℕ) (n : ℕ) → closing quote taken body ≡ Some n → 0 < n
unfolding closing
closing_some quote taken [] n e = absurd cc
closing_some quote taken (c ∷ rest) n e = some_closing (not taken && eqb c quote) (closing quote (not taken && eqb c 92) rest) n e

-- the closing quote stays where it is when more is seen
closing_further : (quote : ℕ) (taken : Bool) (body : List ℕ) (n m : ℕ) → closing quote taken body ≡ Some n → n ≤ m → closing quote taken (take m body) ≡ Some n
unfolding closing
closing_further quote taken [] n m e h = absurd cc
closing_further quote taken (c ∷ rest) n zero e h = let some = closing_some quote taken (c ∷ rest) n e in absurd (omega (arith, some))
closing_further quote taken (c ∷ rest) n (suc m) e h =
    closing_further_case quote c rest n m (not taken && eqb c quote) (not taken && eqb c 92) e h (λ i f g. closing_further quote (not taken && eqb c 92) rest i m f g)

text_end : (quote n m : ℕ) (body : List ℕ) → closing quote false body ≡ Some n → n < m → m ≤ length body → is_text (quote ∷ take m body) ≡ true → ⊥
text_end quote n m body e more within h =
    let parts = and_parts (is_quote quote && is_length (length (take m body)) (closing quote false (take m body))) (not (has_wrong_escape false (take m body))) h in
    let ends : is_length (length (take m body)) (closing quote false (take m body)) ≡ true = (and_parts (is_quote quote) (is_length (length (take m body)) (closing quote false (take m body))) parts.0).1 in
    let len : length (take m body) ≡ m = length-take-le m body within in
    let found : is_length m (Some n) ≡ true = rw (len, closing_further quote false body n m e (omega arith)) at ends in
    let same : n ≡ m = eqb-true n m found in
    omega (arith, same, more)

text_longer : (form : Form) (kd : Kind) (c n m : ℕ) (body : List ℕ) → is_quote c ≡ true → closing c false body ≡ Some n → 1 + n < m → m ≤ length (c ∷ body) → has_form form kd (take m (c ∷ body)) ≡ true → ⊥
text_longer form kd c n zero body opens e more within h = absurd (omega arith)
text_longer form kind.Text c n (suc m) body opens e more within h = text_end c n m body e (omega arith) (omega arith) h
text_longer form kind.Name c n (suc m) body opens e more within h = quote_start c opens (front_first form kind.Name c (suc m) body (omega arith) h)
text_longer form kind.Reserved c n (suc m) body opens e more within h = quote_start c opens (front_first form kind.Reserved c (suc m) body (omega arith) h)
text_longer form kind.Number c n (suc m) body opens e more within h = quote_digit c opens (front_first form kind.Number c (suc m) body (omega arith) h)
text_longer form kind.Mark c n (suc m) body opens e more within h = (no_signs c (front_first form kind.Mark c (suc m) body (omega arith) h)).0 opens
text_longer form kind.Meta c n (suc m) body opens e more within h = quote_dollar c opens (front_first form kind.Meta c (suc m) body (omega arith) h)

text_reaches : (form : Form) (c : ℕ) (body : List ℕ) (o : Option ℕ) → is_quote c ≡ true → closing c false body ≡ o → Reaches form (text_to body o) (c ∷ body)
text_reaches form c body None opens e kd same m more within other = absurd cc
text_reaches form c body (Some n) opens e kd same m more within other = refused (has_form form other (take m (c ∷ body))) (λ h. text_longer form other c n m body opens e more within h)

-- marks, which stand by falling lengths, and metavariables

falls : ℕ → List (List ℕ) → Bool
falls n [] = true
falls n (w ∷ ws) = nat_le (length w) n && falls (length w) ws

marks_fall : (form : Form) → falls 3 (marks form) ≡ true
unfolding falls
marks_fall Program = refl
marks_fall Rules = refl

one_case : (P : Type 0) (w : List ℕ) (ws : List (List ℕ)) (bytes : List ℕ) (b : Bool) → pointwise nat_eq w bytes ≡ b → b || is_one_of ws bytes ≡ true → (w ≡ bytes → P) → (is_one_of ws bytes ≡ true → P) → P
one_case P w ws bytes true e h here others = here (same_text w bytes (sym e))
one_case P w ws bytes false e h here others = others h

no_longer_than : (n : ℕ) (ws : List (List ℕ)) (bytes : List ℕ) → falls n ws ≡ true → is_one_of ws bytes ≡ true → length bytes ≤ n
unfolding falls
no_longer_than n [] bytes f h = absurd cc
no_longer_than n (w ∷ ws) bytes f h =
    let parts = and_parts (nat_le (length w) n) (falls (length w) ws) f in
    let first : length w ≤ n = leb-true (length w) n parts.0 in
    one_case (length bytes ≤ n) w ws bytes (pointwise nat_eq w bytes) refl h
    (λ same. rw (← same) first)
    (λ other. let less = no_longer_than (length w) ws bytes parts.1 other in omega (arith, less, first))

same_throughout : (xs : List ℕ) → pointwise nat_eq xs xs ≡ true
same_throughout [] = refl
same_throughout (x ∷ xs) = rw (eq-eqb x x refl, same_throughout xs) refl

front_begins : (text w : List ℕ) (m : ℕ) → w ≡ take m text → m ≤ length text → starts_with nat_eq text w ≡ true
front_begins text w m e h =
    let len : length w ≡ m = ap length e ∙ length-take-le m text h in
    rw (len, ← e) (same_throughout w)

first_case : (b : Bool) (w : List ℕ) (ws : List (List ℕ)) (text : List ℕ) (m : ℕ) → starts_with nat_eq text w ≡ b → falls (length w) ws ≡ true → is_one_of (w ∷ ws) (take m text) ≡ true → m ≤ length text
    → (is_one_of ws (take m text) ≡ true → m ≤ first_len ws text) → m ≤ cond b (length w) (first_len ws text)
first_case true w ws text m e f h within more =
    let len : length (take m text) ≡ m = length-take-le m text within in
    one_case (m ≤ length w) w ws (take m text) (pointwise nat_eq w (take m text)) refl h
    (λ same. let long : length w ≡ length (take m text) = ap length same in omega (arith, long, len))
    (λ other. let less = no_longer_than (length w) ws (take m text) f other in omega (arith, less, len))
first_case false w ws text m e f h within more =
    one_case (m ≤ first_len ws text) w ws (take m text) (pointwise nat_eq w (take m text)) refl h
    (λ same. let begins = front_begins text w m same within in absurd cc)
    more

first_longest : (n : ℕ) (ws : List (List ℕ)) (text : List ℕ) (m : ℕ) → falls n ws ≡ true → is_one_of ws (take m text) ≡ true → m ≤ length text → m ≤ first_len ws text
unfolding falls
first_longest n [] text m f h within = absurd cc
first_longest n (w ∷ ws) text m f h within =
    let parts = and_parts (nat_le (length w) n) (falls (length w) ws) f in
    first_case (starts_with nat_eq text w) w ws text m refl parts.1 h within (λ other. first_longest (length w) ws text m parts.1 other within)

mark_end : (form : Form) (text : List ℕ) (m : ℕ) → is_one_of (marks form) (take m text) ≡ true → m ≤ length text → m ≤ mark_len form text
unfolding mark_len
mark_end form text m h within = first_longest 3 (marks form) text m (marks_fall form) h within

meta_end_len : (b d : Bool) (n : ℕ) → n ≤ cond b 1 0 → n ≤ cond b 1 0 + cond d 1 0
meta_end_len b d n h = omega (arith, h)

-- what ends a metavariable is no longer than a digit and a prime
end_end : (rest : List ℕ) (m : ℕ) → is_meta_end (take m rest) ≡ true → m ≤ length rest → m ≤ one_if is_ascii_digit rest + one_if (λ p. eqb p 39) (drop (one_if is_ascii_digit rest) rest)
end_end rest zero h within = omega arith
end_end [] (suc m) h within = absurd (omega arith)
end_end (x ∷ []) (suc zero) h within = one (is_ascii_digit x) refl h
  where
    one : (b : Bool) → is_ascii_digit x ≡ b → b || eqb x 39 ≡ true → 1 ≤ cond b 1 0 + one_if (λ p. eqb p 39) (drop (cond b 1 0) (x ∷ []))
    one true e f = omega arith
    one false e f = rw f (omega arith)
end_end (x ∷ []) (suc (suc m)) h within = absurd (omega arith)
end_end (x ∷ y ∷ rest) (suc zero) h within = one (is_ascii_digit x) refl h
  where
    one : (b : Bool) → is_ascii_digit x ≡ b → b || eqb x 39 ≡ true → 1 ≤ cond b 1 0 + one_if (λ p. eqb p 39) (drop (cond b 1 0) (x ∷ y ∷ rest))
    one true e f = omega arith
    one false e f = rw f (omega arith)
end_end (x ∷ y ∷ rest) (suc (suc zero)) h within =
    let parts = and_parts (is_ascii_digit x) (eqb y 39) h in
    rw (parts.0, parts.1) (omega arith)
end_end (x ∷ y ∷ []) (suc (suc (suc m))) h within = absurd (omega arith)
end_end (x ∷ y ∷ z ∷ rest) (suc (suc (suc m))) h within = absurd cc

meta_end : (text : List ℕ) (m : ℕ) → is_meta (take m text) ≡ true → m ≤ length text → m ≤ meta_len text
meta_end text zero h within = omega arith
meta_end [] (suc m) h within = absurd (omega arith)
meta_end (c ∷ []) (suc zero) h within = absurd cc
meta_end (c ∷ []) (suc (suc m)) h within = absurd (omega arith)
meta_end (c ∷ letter ∷ rest) (suc zero) h within = absurd cc
meta_end (c ∷ letter ∷ rest) (suc (suc m)) h within =
    let parts = and_parts (eqb c 36 && is_meta_letter letter) (is_meta_end (take m rest)) h in
    let more = end_end rest m parts.1 (omega arith) in
    rw parts.0 (omega (arith, more))

-- no token that isn't a sign begins with the first byte of one
abbrev IsSign : ℕ → Type 0
IsSign c = (is_quote c ≡ false) × (is_name_start c ≡ false) × (is_ascii_digit c ≡ false)

clash : (b : Bool) → b ≡ false → b ≡ true → ⊥
clash true e f = absurd cc
clash false e f = absurd cc

meta_dollar_case : (b d : Bool) (k n : ℕ) → cond (b && d) k 0 ≡ suc n → b ≡ true
meta_dollar_case true d k n e = refl
meta_dollar_case false d k n e = absurd (omega arith)

meta_dollar : (c : ℕ) (rest : List ℕ) (n : ℕ) → meta_len (c ∷ rest) ≡ suc n → eqb c 36 ≡ true
meta_dollar c [] n e = absurd (omega arith)
meta_dollar c (letter ∷ rest) n e = meta_dollar_case (eqb c 36) (is_meta_letter letter) _ n e

in_dollar : (form : Form) (c : ℕ) (rest : List ℕ) (n : ℕ) → meta_len_in form (c ∷ rest) ≡ suc n → eqb c 36 ≡ true
in_dollar Program c rest n e = absurd (omega arith)
in_dollar Rules c rest n e = meta_dollar c rest n e

in_end : (form : Form) (text : List ℕ) (m : ℕ) → has_form form kind.Meta (take m text) ≡ true → m ≤ length text → m ≤ meta_len_in form text
in_end Program text m h within = absurd cc
in_end Rules text m h within = meta_end text m h within

sign_longer : (form : Form) (kd : Kind) (c m meta mark : ℕ) (rest : List ℕ) → IsSign c → meta_len_in form (c ∷ rest) ≡ meta → mark_len form (c ∷ rest) ≡ mark → (sign_by meta mark).len < m → m ≤ length (c ∷ rest) → has_form form kd (take m (c ∷ rest)) ≡ true → ⊥
sign_longer form kind.Name c m meta mark rest s e f more within h = clash (is_name_start c) s.1 (front_first form kind.Name c m rest (omega arith) h)
sign_longer form kind.Reserved c m meta mark rest s e f more within h = clash (is_name_start c) s.1 (front_first form kind.Reserved c m rest (omega arith) h)
sign_longer form kind.Number c m meta mark rest s e f more within h = clash (is_ascii_digit c) s.2 (front_first form kind.Number c m rest (omega arith) h)
sign_longer form kind.Text c m meta mark rest s e f more within h = clash (is_quote c) s.0 (front_first form kind.Text c m rest (omega arith) h)
sign_longer form kind.Mark c m (suc n) mark rest s e f more within h =
    (no_signs c (front_first form kind.Mark c m rest (omega arith) h)).3 (in_dollar form c rest n e)
sign_longer form kind.Mark c m zero (suc n) rest s e f more within h =
    let most = mark_end form (c ∷ rest) m h within in omega (arith, most, f, more)
sign_longer form kind.Mark c m zero zero rest s e f more within h =
    let most = mark_end form (c ∷ rest) m h within in omega (arith, most, f, more)
sign_longer form kind.Meta c m (suc n) mark rest s e f more within h =
    let most = in_end form (c ∷ rest) m h within in omega (arith, most, e, more)
sign_longer form kind.Meta c m zero mark rest s e f more within h =
    let most = in_end form (c ∷ rest) m h within in omega (arith, most, e, more)

sign_reaches : (form : Form) (c : ℕ) (rest : List ℕ) → IsSign c → Reaches form (sign_at form (c ∷ rest)) (c ∷ rest)
unfolding sign_at
sign_reaches form c rest s kd e m more within other = refused (has_form form other (take m (c ∷ rest))) (λ h. sign_longer form other c m (meta_len_in form (c ∷ rest)) (mark_len form (c ∷ rest)) rest s refl refl more within h)

pieces_reach : (form : Form) (text : List ℕ) → Reaches form (piece_at form text) text
unfolding piece_at
pieces_reach form [] = λ kd e. absurd cc
pieces_reach form (c ∷ rest) =
    by_case form (c ∷ rest) (is_white c) _ _ (λ _ kd e. absurd cc)
    (λ _. by_case form (c ∷ rest) (eqb c 35) _ _ (λ _ kd e. absurd cc)
    (λ _. by_case form (c ∷ rest) (is_quote c) _ _ (λ opens. text_reaches form c rest (closing c false rest) opens refl)
    (λ quote. by_case form (c ∷ rest) (is_name_start c) _ _ (λ start. name_reaches form c rest start)
    (λ start. by_case form (c ∷ rest) (is_ascii_digit c) _ _ (λ digit. number_reaches form c rest digit)
    (λ digit. sign_reaches form c rest (quote, start, digit))))))

-- a token is the longest form at its place
pub piece_longest : (form : Form) (text : List ℕ) (kd : Kind) → (piece_at form text).sort ≡ sort.Token kd → IsLongest form text (piece_at form text).len
piece_longest form text = pieces_reach form text
