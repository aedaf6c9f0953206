-- How far values go in a text, and that a text spells one value at most.
use Rattle.std.proofs.Common.{◌≡◌, ℕ, suc, ◌<◌, Bool, true, false, not, ◌&&◌, ◌||◌, ◌==◌, if◌then◌else◌, List, [], ◌∷◌, ◌++◌, codes, length, get_or, Some, None, ℤ, refl, sym, ap, ◌∙◌, subst, arith}
use Rattle.std.specs.List.{list_all}
use Rattle.std.proofs.lemmas.List.{append_cancel_left, append_cancel_right}
use Rattle.std.proofs.lemmas.Option.{same_Some}
use Rattle.mpy_tree.specs.declared.value.Value.{Value}
use Rattle.mpy_tree.specs.declared.value.Value.TheVariants as value
use Rattle.mpy_tree.specs.Printing.{truth_text}
use Rattle.mpy_lexer.specs.Bytes.{is_quote}
use Rattle.mpy_lexer.specs.TextLiterals.{characters, literal_characters}
use Rattle.input_space.specs.Cases.{SpellsEach, SpellsNumber, SpellsNumbers, SpellsValue}
use Rattle.input_space.specs.Pieces.{number_len, value_len}
use Rattle.input_space.proofs.Extents.{all_weaker, inner_no_bracket, list_cut, not_comma, number_cut, numbers_cut, text_cut}
use Rattle.input_space.proofs.Membership.{both}
use Rattle.input_space.proofs.Numerals.{is_numeral, numeral, number_one}
use Rattle.input_space.proofs.Rows.{Cuts, IsEnd, spells_one}

-- a byte with which neither a text nor a list begins, and that isn't a comma
abbrev is_plain : ℕ → Bool
is_plain c = not (is_quote c) && not (c == 91) && not_comma c

numeral_plain : (c : ℕ) → is_numeral c ≡ true → is_plain c ≡ true
numeral_plain c h = grind arith

plain_parts : (c : ℕ) → is_plain c ≡ true → (is_quote c ≡ false) × ((c == 91) ≡ false)
plain_parts c h = (grind arith, grind arith)

plain_comma : (c : ℕ) → is_plain c ≡ true → not_comma c ≡ true
plain_comma c h = grind arith

plain_cut : (piece more : List ℕ) → 0 < length piece → list_all is_plain piece ≡ true → IsEnd more → value_len (piece ++ more) ≡ length piece
plain_cut [] more some h e = absurd (omega arith)
plain_cut (c ∷ cs) more some h e =
    let r = both (is_plain c) (list_all is_plain cs) h in
    let p = plain_parts c r.0 in
    let n : number_len (c ∷ cs ++ more) ≡ suc (length cs) = number_cut (c ∷ cs) more (all_weaker is_plain not_comma plain_comma (c ∷ cs) h) e in
    rw (p.0, p.1) n

-- what a literal's text is
record IsLiteral (piece cs : List ℕ) : Type 0 where
  quote : ℕ
  body : List ℕ
  whole : piece ≡ quote ∷ body
  quotes : is_quote quote ≡ true
  spells : characters quote body ≡ Some cs

quoted_by : (q : ℕ) (body cs : List ℕ) (b : Bool) → is_quote q ≡ b → (if b then characters q body else None) ≡ Some cs → IsLiteral (q ∷ body) cs
quoted_by q body cs true e h = record { quote = q; body = body; whole = refl; quotes = e; spells = h }
quoted_by q body cs false e h = absurd (cc)

literal_is : (piece cs : List ℕ) → literal_characters piece ≡ Some cs → IsLiteral piece cs
literal_is [] cs h = absurd (cc)
literal_is (q ∷ body) cs h = quoted_by q body cs (is_quote q) refl h

literal_cut : (piece more cs : List ℕ) → IsLiteral piece cs → value_len (piece ++ more) ≡ length piece
literal_cut piece more cs h =
    let n = text_cut h.quote h.body more cs h.spells in
    subst (λ p. value_len (p ++ more) ≡ length p) (sym h.whole) (rw h.quotes (ap suc n))

truth_plain : (b : Bool) → (0 < length (truth_text b)) × (list_all is_plain (truth_text b) ≡ true)
truth_plain true = (omega arith, refl)
truth_plain false = (omega arith, refl)

value_some : (piece : List ℕ) (v : Value) → SpellsValue piece v → 0 < length piece
value_some piece (value.Int z) h = (numeral piece z h).some
value_some piece (value.Bool b) h = subst (λ p. 0 < length p) (sym h) (truth_plain b).0
value_some piece (value.List zs) h = subst (λ p. 0 < length p) (sym h.bracketed) (omega arith)
value_some piece (value.Text cs) h = let l = literal_is piece cs h in subst (λ p. 0 < length p) (sym l.whole) (omega arith)

value_cut : (piece more : List ℕ) (v : Value) → SpellsValue piece v → IsEnd more → value_len (piece ++ more) ≡ length piece
value_cut piece more (value.Int z) h e =
    let n = numeral piece z h in
    plain_cut piece more n.some (all_weaker is_numeral is_plain numeral_plain piece n.bytes) e
value_cut piece more (value.Bool b) h e =
    subst (λ p. value_len (p ++ more) ≡ length p) (sym h) (plain_cut (truth_text b) more (truth_plain b).0 (truth_plain b).1 e)
value_cut piece more (value.List zs) h e =
    subst (λ p. value_len (p ++ more) ≡ length p) (sym h.bracketed) (list_cut h.inner more (inner_no_bracket h.inner zs h.spelled))
value_cut piece more (value.Text cs) h e = literal_cut piece more cs (literal_is piece cs h)

-- The sort of a value shows in the first byte of its text.

abbrev sort_of : Value → ℕ
sort_of (value.Int z) = 0
sort_of (value.Bool b) = 1
sort_of (value.List zs) = 2
sort_of (value.Text cs) = 3

abbrev first_sort : ℕ → ℕ
first_sort c = if is_quote c then 3 else if c == 91 then 2 else if c == 84 || c == 70 then 1 else 0

numeral_first : (c : ℕ) → is_numeral c ≡ true → first_sort c ≡ 0
numeral_first c h = grind arith

first_numeral : (text : List ℕ) → 0 < length text → list_all is_numeral text ≡ true → first_sort (get_or text 0 0) ≡ 0
first_numeral [] some h = absurd (omega arith)
first_numeral (c ∷ cs) some h = numeral_first c (both (is_numeral c) (list_all is_numeral cs) h).0

truth_first : (b : Bool) → first_sort (get_or (truth_text b) 0 0) ≡ 1
truth_first true = refl
truth_first false = refl

sort_is : (piece : List ℕ) (v : Value) → SpellsValue piece v → first_sort (get_or piece 0 0) ≡ sort_of v
sort_is piece (value.Int z) h = let n = numeral piece z h in first_numeral piece n.some n.bytes
sort_is piece (value.Bool b) h = subst (λ p. first_sort (get_or p 0 0) ≡ 1) (sym h) (truth_first b)
sort_is piece (value.List zs) h = subst (λ p. first_sort (get_or p 0 0) ≡ 2) (sym h.bracketed) refl
sort_is piece (value.Text cs) h =
    let l = literal_is piece cs h in
    subst (λ p. first_sort (get_or p 0 0) ≡ 3) (sym l.whole) (rw l.quotes refl)

truth_one : (b c : Bool) → truth_text b ≡ truth_text c → b ≡ c
truth_one true true e = refl
truth_one true false e = absurd (cc)
truth_one false true e = absurd (cc)
truth_one false false e = refl

list_one : (piece : List ℕ) (ys zs : List ℤ) → SpellsNumbers piece ys → SpellsNumbers piece zs → ys ≡ zs
list_one piece ys zs h g =
    let inner : g.inner ≡ h.inner = append_cancel_left (codes "[") g.inner h.inner (append_cancel_right (codes "[" ++ g.inner) (codes "[" ++ h.inner) (codes "]") (sym g.bracketed ∙ h.bracketed)) in
    spells_one SpellsNumber number_len numbers_cut h.inner ys zs h.spelled (subst (λ t. SpellsEach SpellsNumber t zs) inner g.spelled)

value_one : (piece : List ℕ) (v w : Value) → SpellsValue piece v → SpellsValue piece w → v ≡ w
value_one piece (value.Int y) (value.Int z) h g = ap value.Int (number_one piece y z h g)
value_one piece (value.Bool b) (value.Bool c) h g = ap value.Bool (truth_one b c (sym h ∙ g))
value_one piece (value.List ys) (value.List zs) h g = ap value.List (list_one piece ys zs h g)
value_one piece (value.Text cs) (value.Text ds) h g = ap value.Text (same_Some cs ds (sym h ∙ g))
value_one piece v w h g = absurd (let e = sym (sort_is piece v h) ∙ sort_is piece w g in omega (arith, e))

pub values_cut : Cuts SpellsValue value_len
values_cut = record { some = value_some; cut = value_cut; one = value_one }
