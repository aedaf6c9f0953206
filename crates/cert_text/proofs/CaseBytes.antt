-- The bytes of the texts of cases.
use Rattle.std.proofs.Common.{◌≡◌, ℕ, suc, ◌^◌, ◌<◌, Bool, true, false, not, ◌==◌, cond, List, [], ◌∷◌, ◌++◌, codes, Option, None, Some, ℤ, pos, negsuc, refl, sym, subst, arith}
use Rattle.std.specs.Fmt.{signed_decimal}
use Rattle.std.specs.List.{AllZip, list_all}
use Rattle.mpy_tree.specs.Operations.{fits_width}
use Rattle.mpy_tree.specs.Printing.{commas, truth_text}
use Rattle.mpy_tree.specs.declared.value.Value.{Value}
use Rattle.mpy_tree.specs.declared.value.Value.TheVariants as value
use Rattle.mpy_lexer.specs.Bytes.{is_quote}
use Rattle.mpy_lexer.specs.TextLiterals.{characters, is_escapable, is_printable, literal_characters, with_character}
use Rattle.input_space.specs.Cases.{SpellsCase, SpellsEach, SpellsNumber, SpellsValue}
use Rattle.step_lines.proofs.Apart.{all_append, both, two}
use Rattle.step_lines.proofs.Decimals.{digits_lack_byte, line_end_is_other}
use Rattle.step_lines.specs.Lines.{lacks}

abbrev no_end : ℕ → Bool
no_end c = not (c == 10)

-- texts joined by commas

commas_lack : (ps : List (List ℕ)) → list_all (lacks 10) ps ≡ true → lacks 10 (commas ps) ≡ true
commas_lack [] h = refl
commas_lack (p ∷ []) h = (both (lacks 10 p) true h).0
commas_lack (p ∷ q ∷ ps) h =
    let r = both (lacks 10 p) (list_all (lacks 10) (q ∷ ps)) h in
    all_append no_end (p ++ codes ", ") (commas (q ∷ ps)) (all_append no_end p (codes ", ") r.0 refl) (commas_lack (q ∷ ps) r.1)

pieces_lack : {A : Type 0} (Spells : List ℕ → A → Type 0) → ((t : List ℕ) (x : A) → Spells t x → lacks 10 t ≡ true) → (ps : List (List ℕ)) (xs : List A) → AllZip Spells ps xs → list_all (lacks 10) ps ≡ true
pieces_lack Spells f [] xs h = refl
pieces_lack Spells f (p ∷ ps) [] h = absurd h
pieces_lack Spells f (p ∷ ps) (x ∷ xs) h = two (lacks 10 p) (list_all (lacks 10) ps) (f p x h.0) (pieces_lack Spells f ps xs h.1)

each_lacks : {A : Type 0} (Spells : List ℕ → A → Type 0) → ((t : List ℕ) (x : A) → Spells t x → lacks 10 t ≡ true) → (text : List ℕ) (xs : List A) → SpellsEach Spells text xs → lacks 10 text ≡ true
each_lacks Spells f text xs h =
    subst (λ t. lacks 10 t ≡ true) (sym h.joined) (commas_lack h.pieces (pieces_lack Spells f h.pieces xs h.spelled))

-- numbers

signed_lacks : (z : ℤ) → fits_width 32 z ≡ true → lacks 10 (signed_decimal z) ≡ true
signed_lacks (pos n) h = let small : n < 2 ^ 64 = grind arith in digits_lack_byte 10 n line_end_is_other small
signed_lacks (negsuc n) h = let small : suc n < 2 ^ 64 = grind arith in digits_lack_byte 10 (suc n) line_end_is_other small

number_lacks : (text : List ℕ) (z : ℤ) → SpellsNumber text z → lacks 10 text ≡ true
number_lacks text z h = subst (λ t. lacks 10 t ≡ true) (sym h.written) (signed_lacks z h.fits)

truth_lacks : (b : Bool) → lacks 10 (truth_text b) ≡ true
truth_lacks true = refl
truth_lacks false = refl

-- texts

quote_is : (q : ℕ) → is_quote q ≡ true → no_end q ≡ true
quote_is q h = grind arith

slash_is : (c : ℕ) → (c == 92) ≡ true → no_end c ≡ true
slash_is c h = grind arith

same_is : (c q : ℕ) → (c == q) ≡ true → is_quote q ≡ true → no_end c ≡ true
same_is c q h g = grind arith

escapable_is : (c : ℕ) → is_escapable c ≡ true → no_end c ≡ true
escapable_is c h = grind arith

printable_is : (c : ℕ) → is_printable c ≡ true → no_end c ≡ true
printable_is c h = grind arith

-- what is known of the next byte, for the tests of it
next_lacks : (q c d : ℕ) (rest cs : List ℕ) (a b e f : Bool) → (c == 92) ≡ b → is_escapable d ≡ e → is_printable c ≡ f →
    ((ds : List ℕ) → characters q rest ≡ Some ds → lacks 10 rest ≡ true) →
    ((ds : List ℕ) → characters q (d ∷ rest) ≡ Some ds → lacks 10 (d ∷ rest) ≡ true) →
    cond a None (cond b (cond e (with_character d (characters q rest)) None) (cond f (with_character c (characters q (d ∷ rest))) None)) ≡ Some cs →
    lacks 10 (c ∷ d ∷ rest) ≡ true
next_lacks q c d rest cs true b e f i j k far near h = absurd (cc)
next_lacks q c d rest cs false true true f i j k far near h =
    two (no_end c) (lacks 10 (d ∷ rest)) (slash_is c i) (two (no_end d) (lacks 10 rest) (escapable_is d j) (by_rest (characters q rest) refl h))
  where
    by_rest : (o : Option (List ℕ)) → characters q rest ≡ o → with_character d o ≡ Some cs → lacks 10 rest ≡ true
    by_rest None g s = absurd (cc)
    by_rest (Some ds) g s = far ds g
next_lacks q c d rest cs false true false f i j k far near h = absurd (cc)
next_lacks q c d rest cs false false e true i j k far near h =
    two (no_end c) (lacks 10 (d ∷ rest)) (printable_is c k) (by_rest (characters q (d ∷ rest)) refl h)
  where
    by_rest : (o : Option (List ℕ)) → characters q (d ∷ rest) ≡ o → with_character c o ≡ Some cs → lacks 10 (d ∷ rest) ≡ true
    by_rest None g s = absurd (cc)
    by_rest (Some ds) g s = near ds g
next_lacks q c d rest cs false false e false i j k far near h = absurd (cc)

last_lacks : (q c : ℕ) (cs : List ℕ) (a : Bool) → is_quote q ≡ true → (c == q) ≡ a → cond a (Some []) None ≡ Some cs → lacks 10 (c ∷ []) ≡ true
last_lacks q c cs true i e h = two (no_end c) true (same_is c q e i) refl
last_lacks q c cs false i e h = absurd (cc)

characters_lack : (q : ℕ) (body cs : List ℕ) → is_quote q ≡ true → characters q body ≡ Some cs → lacks 10 body ≡ true
unfolding characters
characters_lack q [] cs i h = absurd (cc)
characters_lack q (c ∷ []) cs i h = last_lacks q c cs (c == q) i refl h
characters_lack q (c ∷ d ∷ rest) cs i h =
    next_lacks q c d rest cs (c == q) (c == 92) (is_escapable d) (is_printable c) refl refl refl
    (λ ds g. characters_lack q rest ds i g)
    (λ ds g. characters_lack q (d ∷ rest) ds i g)
    h

quoted_lacks : (q : ℕ) (rest cs : List ℕ) (a : Bool) → is_quote q ≡ a → cond a (characters q rest) None ≡ Some cs → lacks 10 (q ∷ rest) ≡ true
quoted_lacks q rest cs true i h = two (no_end q) (lacks 10 rest) (quote_is q i) (characters_lack q rest cs i h)
quoted_lacks q rest cs false i h = absurd (cc)

text_lacks : (text cs : List ℕ) → literal_characters text ≡ Some cs → lacks 10 text ≡ true
text_lacks [] cs h = absurd (cc)
text_lacks (q ∷ rest) cs h = quoted_lacks q rest cs (is_quote q) refl h

value_lacks : (text : List ℕ) (v : Value) → SpellsValue text v → lacks 10 text ≡ true
value_lacks text (value.Int z) h = number_lacks text z h
value_lacks text (value.Bool b) h = subst (λ t. lacks 10 t ≡ true) (sym h) (truth_lacks b)
value_lacks text (value.List zs) h =
    subst (λ t. lacks 10 t ≡ true) (sym h.bracketed)
    (all_append no_end (codes "[" ++ h.inner) (codes "]") (each_lacks SpellsNumber number_lacks h.inner zs h.spelled) refl)
value_lacks text (value.Text cs) h = text_lacks text cs h

-- no case has a line end
pub case_apart : (text : List ℕ) (vs : List Value) → SpellsCase text vs → lacks 10 text ≡ true
case_apart text vs s = each_lacks SpellsValue value_lacks text vs s
