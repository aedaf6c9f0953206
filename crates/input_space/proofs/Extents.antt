-- How far numbers and values go in a text.
use Rattle.std.proofs.Common.{◌≡◌, ℕ, suc, ◌+◌, inl, inr, Bool, true, false, not, ◌==◌, cond, List, [], ◌∷◌, ◌++◌, codes, length, Option, Some, None, ℤ, refl, sym, ap, ◌∙◌, subst, arith, append_assoc, length-append}
use Rattle.std.specs.List.{AllZip, list_all, prefix_len}
use Rattle.mpy_tree.specs.Printing.{commas}
use Rattle.mpy_lexer.specs.TextLiterals.{characters, is_escapable, is_printable, with_character}
use Rattle.input_space.specs.Cases.{SpellsEach, SpellsNumber}
use Rattle.input_space.specs.Pieces.{closed_len, list_len, number_len}
use Rattle.input_space.proofs.Membership.{both, two}
use Rattle.input_space.proofs.Numerals.{is_numeral, numeral, number_one}
use Rattle.input_space.proofs.Rows.{Cuts, IsEnd}

-- tests of all bytes

pub all_weaker : (p q : ℕ → Bool) → ((c : ℕ) → p c ≡ true → q c ≡ true) → (xs : List ℕ) → list_all p xs ≡ true → list_all q xs ≡ true
all_weaker p q w [] h = refl
all_weaker p q w (x ∷ xs) h = let r = both (p x) (list_all p xs) h in two (q x) (list_all q xs) (w x r.0) (all_weaker p q w xs r.1)

all_append : (p : ℕ → Bool) (xs ys : List ℕ) → list_all p xs ≡ true → list_all p ys ≡ true → list_all p (xs ++ ys) ≡ true
all_append p [] ys h g = g
all_append p (x ∷ xs) ys h g = let r = both (p x) (list_all p xs) h in two (p x) (list_all p (xs ++ ys)) r.0 (all_append p xs ys r.1 g)

prefix_stops : (p : ℕ → Bool) (xs : List ℕ) (c : ℕ) (more : List ℕ) → list_all p xs ≡ true → p c ≡ false → prefix_len p (xs ++ c ∷ more) ≡ length xs
prefix_stops p [] c more h g = rw g refl
prefix_stops p (x ∷ xs) c more h g =
    let r = both (p x) (list_all p xs) h in
    rw r.0 (omega (arith, prefix_stops p xs c more r.1 g))

prefix_whole : (p : ℕ → Bool) (xs : List ℕ) → list_all p xs ≡ true → prefix_len p (xs ++ []) ≡ length xs
prefix_whole p [] h = refl
prefix_whole p (x ∷ xs) h =
    let r = both (p x) (list_all p xs) h in
    rw r.0 (omega (arith, prefix_whole p xs r.1))

-- numbers

abbrev pub not_comma : ℕ → Bool
not_comma c = not (c == 44)

pub number_cut : (piece more : List ℕ) → list_all not_comma piece ≡ true → IsEnd more → number_len (piece ++ more) ≡ length piece
number_cut piece more h (inl e) = ap (λ m. number_len (piece ++ m)) e ∙ prefix_whole not_comma piece h
number_cut piece more h (inr e) = ap (λ m. number_len (piece ++ m)) e.1 ∙ prefix_stops not_comma piece 44 e.0 h refl

numeral_no_comma : (c : ℕ) → is_numeral c ≡ true → not_comma c ≡ true
numeral_no_comma c h = grind arith

pub numbers_cut : Cuts SpellsNumber number_len
numbers_cut = record {
  some = λ piece z h. (numeral piece z h).some;
  cut = λ piece more z h e. number_cut piece more (all_weaker is_numeral not_comma numeral_no_comma piece (numeral piece z h).bytes) e;
  one = number_one;
}

-- lists

abbrev not_bracket : ℕ → Bool
not_bracket c = not (c == 93)

numeral_no_bracket : (c : ℕ) → is_numeral c ≡ true → not_bracket c ≡ true
numeral_no_bracket c h = grind arith

numbers_no_bracket : (ps : List (List ℕ)) (zs : List ℤ) → AllZip SpellsNumber ps zs → list_all not_bracket (commas ps) ≡ true
numbers_no_bracket [] zs h = refl
numbers_no_bracket (p ∷ ps) [] h = absurd h
numbers_no_bracket (p ∷ []) (z ∷ zs) h = all_weaker is_numeral not_bracket numeral_no_bracket p (numeral p z h.0).bytes
numbers_no_bracket (p ∷ q ∷ ps) (z ∷ zs) h =
    let first = all_weaker is_numeral not_bracket numeral_no_bracket p (numeral p z h.0).bytes in
    all_append not_bracket (p ++ codes ", ") (commas (q ∷ ps)) (all_append not_bracket p (codes ", ") first refl) (numbers_no_bracket (q ∷ ps) zs h.1)

pub inner_no_bracket : (inner : List ℕ) (zs : List ℤ) → SpellsEach SpellsNumber inner zs → list_all not_bracket inner ≡ true
inner_no_bracket inner zs h = subst (λ t. list_all not_bracket t ≡ true) (sym h.joined) (numbers_no_bracket h.pieces zs h.spelled)

pub list_cut : (inner more : List ℕ) → list_all not_bracket inner ≡ true → list_len (codes "[" ++ inner ++ codes "]" ++ more) ≡ length (codes "[" ++ inner ++ codes "]")
list_cut inner more h =
    let all = codes "[" ++ inner ++ codes "]" ++ more in
    let flat : all ≡ 91 ∷ (inner ++ 93 ∷ more) = ap (λ t. 91 ∷ t) (append_assoc inner (93 ∷ []) more) in
    let stops : prefix_len not_bracket (inner ++ 93 ∷ more) ≡ length inner = prefix_stops not_bracket inner 93 more h refl in
    let size : length (inner ++ 93 ∷ more) ≡ length inner + suc (length more) = length-append inner (93 ∷ more) in
    let piece : length (codes "[" ++ inner ++ codes "]") ≡ suc (length inner + 1) = ap suc (length-append inner (93 ∷ [])) in
    ap list_len flat ∙ omega (arith, stops, size, piece)

-- texts

-- the literal's end, for the tests of its next character
text_next : (q c d : ℕ) (rest more cs : List ℕ) (a b e f : Bool) → (c == q) ≡ a → (c == 92) ≡ b →
    ((ds : List ℕ) → characters q rest ≡ Some ds → closed_len q false (rest ++ more) ≡ length rest) →
    ((ds : List ℕ) → characters q (d ∷ rest) ≡ Some ds → closed_len q false (d ∷ rest ++ more) ≡ suc (length rest)) →
    cond a None (cond b (cond e (with_character d (characters q rest)) None) (cond f (with_character c (characters q (d ∷ rest))) None)) ≡ Some cs →
    closed_len q false (c ∷ d ∷ rest ++ more) ≡ suc (suc (length rest))
text_next q c d rest more cs true b e f i j far near h = absurd (cc)
text_next q c d rest more cs false true true f i j far near h = rw (i, j) (ap (λ n. suc (suc n)) (by_rest (characters q rest) refl h))
  where
    by_rest : (o : Option (List ℕ)) → characters q rest ≡ o → with_character d o ≡ Some cs → closed_len q false (rest ++ more) ≡ length rest
    by_rest None k g = absurd (cc)
    by_rest (Some ds) k g = far ds k
text_next q c d rest more cs false true false f i j far near h = absurd (cc)
text_next q c d rest more cs false false e true i j far near h = rw (i, j) (ap suc (by_rest (characters q (d ∷ rest)) refl h))
  where
    by_rest : (o : Option (List ℕ)) → characters q (d ∷ rest) ≡ o → with_character c o ≡ Some cs → closed_len q false (d ∷ rest ++ more) ≡ suc (length rest)
    by_rest None k g = absurd (cc)
    by_rest (Some ds) k g = near ds k
text_next q c d rest more cs false false e false i j far near h = absurd (cc)

text_last : (q c : ℕ) (more cs : List ℕ) (a : Bool) → (c == q) ≡ a → cond a (Some []) None ≡ Some cs → closed_len q false (c ∷ more) ≡ 1
text_last q c more cs true e h = rw e refl
text_last q c more cs false e h = absurd (cc)

pub text_cut : (q : ℕ) (body more cs : List ℕ) → characters q body ≡ Some cs → closed_len q false (body ++ more) ≡ length body
unfolding characters
text_cut q [] more cs h = absurd (cc)
text_cut q (c ∷ []) more cs h = text_last q c more cs (c == q) refl h
text_cut q (c ∷ d ∷ rest) more cs h =
    text_next q c d rest more cs (c == q) (c == 92) (is_escapable d) (is_printable c) refl refl
    (λ ds g. text_cut q rest more ds g)
    (λ ds g. text_cut q (d ∷ rest) more ds g)
    h
