-- A quoted text is a text token, and writes its characters.
use Rattle.std.proofs.Common.{◌≡◌, ℕ, ◌<◌, Bool, true, false, not, eqb, cond, List, [], ◌∷◌, ◌++◌, length, codes, flat_map, Some, refl, ap, sym, ◌∙◌, subst, append_assoc, arith, add-one, eq-eqb, eqb-true}
use Rattle.std.specs.List.{list_all}
use Rattle.std.proofs.lemmas.Bool.{and_parts, and_from}
use Rattle.mpy_tree.specs.Printing.{escaped, quoted_text}
use Rattle.mpy_lexer.specs.declared.forms.Form.TheVariants.{Program}
use Rattle.mpy_lexer.specs.declared.forms.Kind.TheVariants as kind
use Rattle.mpy_lexer.specs.Pieces.{closing, has_wrong_escape}
use Rattle.mpy_lexer.specs.TokenForms.{is_length, has_form}
use Rattle.mpy_expressions.specs.declared.terminals.Terminal.TheVariants as terminal
use Rattle.mpy_expressions.specs.Terminals.{text_terminal, text_terminal_of}
use Rattle.mpy_lexer.specs.TextLiterals.{is_printable, characters, with_character}

-- the bytes behind an opening single quote: the characters, and the closing quote
record IsBody (cs bytes : List ℕ) : Type 0 where
  some : 0 < length bytes
  spells : characters 39 bytes ≡ Some cs
  closes : closing 39 false bytes ≡ Some (length bytes)
  right : has_wrong_escape false bytes ≡ false
  printable : list_all is_printable bytes ≡ true

quote_alone : IsBody [] (39 ∷ [])
unfolding characters closing has_wrong_escape
quote_alone = record { some = omega arith; spells = refl; closes = refl; right = refl; printable = refl }

plain_character : (c : ℕ) (bytes : List ℕ) → 0 < length bytes → eqb c 39 ≡ false → eqb c 92 ≡ false → is_printable c ≡ true → characters 39 (c ∷ bytes) ≡ with_character c (characters 39 bytes)
unfolding characters
plain_character c [] some a b p = absurd (omega arith)
plain_character c (d ∷ bytes) some a b p = rw (a, b, p) refl

plain : (c : ℕ) (cs bytes : List ℕ) → eqb c 39 ≡ false → eqb c 92 ≡ false → is_printable c ≡ true → IsBody cs bytes → IsBody (c ∷ cs) (c ∷ bytes)
unfolding closing has_wrong_escape
plain c cs bytes a b p h = record {
  some = omega arith;
  spells = plain_character c bytes h.some a b p ∙ ap (with_character c) h.spells;
  closes = rw (a, b, h.closes, add-one) refl;
  right = rw (b, h.right) refl;
  printable = and_from (is_printable c) (list_all is_printable bytes) p h.printable;
}

backslash : (cs bytes : List ℕ) → IsBody cs bytes → IsBody (92 ∷ cs) (92 ∷ 92 ∷ bytes)
unfolding characters closing has_wrong_escape
backslash cs bytes h = record {
  some = omega arith;
  spells = ap (with_character 92) h.spells;
  closes = simp (h.closes, add-one);
  right = h.right;
  printable = h.printable;
}

quote : (cs bytes : List ℕ) → IsBody cs bytes → IsBody (39 ∷ cs) (92 ∷ 39 ∷ bytes)
unfolding characters closing has_wrong_escape
quote cs bytes h = record {
  some = omega arith;
  spells = ap (with_character 39) h.spells;
  closes = simp (h.closes, add-one);
  right = h.right;
  printable = h.printable;
}

one_more : (c : ℕ) (cs bytes : List ℕ) (b d : Bool) → eqb c 92 ≡ b → eqb c 39 ≡ d → is_printable c ≡ true → IsBody cs bytes → IsBody (c ∷ cs) (cond b (92 ∷ 92 ∷ []) (cond d (92 ∷ 39 ∷ []) (c ∷ [])) ++ bytes)
one_more c cs bytes true d e f p h = subst (λ x. IsBody (x ∷ cs) (92 ∷ 92 ∷ bytes)) (sym (eqb-true c 92 e)) (backslash cs bytes h)
one_more c cs bytes false true e f p h = subst (λ x. IsBody (x ∷ cs) (92 ∷ 39 ∷ bytes)) (sym (eqb-true c 39 f)) (quote cs bytes h)
one_more c cs bytes false false e f p h = plain c cs bytes f e p h

body : (cs : List ℕ) → list_all is_printable cs ≡ true → IsBody cs (flat_map escaped cs ++ codes "'")
body [] p = quote_alone
body (c ∷ cs) p =
    let parts = and_parts (is_printable c) (list_all is_printable cs) p in
    let more = one_more c cs (flat_map escaped cs ++ codes "'") (eqb c 92) (eqb c 39) refl refl parts.0 (body cs parts.1) in
    subst (IsBody (c ∷ cs)) (sym (append_assoc (escaped c) (flat_map escaped cs) (codes "'"))) more

pub literal_terminal : (cs : List ℕ) → list_all is_printable cs ≡ true → text_terminal (quoted_text cs) ≡ terminal.Text cs
literal_terminal cs p = ap text_terminal_of (body cs p).spells

pub literal_form : (cs : List ℕ) → list_all is_printable cs ≡ true → has_form Program kind.Text (quoted_text cs) ≡ true
literal_form cs p =
    let inside = flat_map escaped cs ++ codes "'" in
    let h : IsBody cs inside = body cs p in
    let whole : is_length (length inside) (closing 39 false inside) ≡ true = rw h.closes (eq-eqb (length inside) (length inside) refl) in
    and_from (is_length (length inside) (closing 39 false inside)) (not (has_wrong_escape false inside)) whole (ap not h.right)

pub printable_literal : (cs : List ℕ) → list_all is_printable cs ≡ true → list_all is_printable (quoted_text cs) ≡ true
printable_literal cs p = (body cs p).printable
