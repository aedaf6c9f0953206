-- The parts of a line, one after another.
use Rattle.std.proofs.Common.{◌≡◌, ℕ, zero, suc, ◌+◌, ◌-◌, ◌<◌, ◌≤◌, false, ◌&&◌, ◌||◌, cond, Option, Some, None, List, [], ◌∷◌, ◌++◌, length, take, drop, refl, sym, ap, ◌∙◌, append_assoc, add-zero, arith, length-drop, append-nil}
use Rattle.std.specs.List.{list_any}
use Rattle.std.proofs.Math.Bool.{or_assoc, or-false}
use Rattle.std.proofs.lemmas.List.{drop-drop, drop_all}
use Rattle.mpy_lexer.specs.declared.forms.Form.{Form}
use Rattle.mpy_lexer.specs.declared.pieces.Piece.{Piece}
use Rattle.mpy_lexer.specs.declared.line.LexCause.{LexCause}
use Rattle.mpy_lexer.specs.declared.line.LexCause.TheVariants.{Byte, Tab}
use Rattle.mpy_lexer.specs.declared.rows.Seen.{Seen}
use Rattle.mpy_lexer.specs.Pieces.{Part, part, parts, piece_at}
use Rattle.mpy_lexer.specs.PhysicalLines.{is_solid, is_foreign, is_wrong, token_in, tokens_of, is_program, begins_with_tab, column_of, row_of}
use Rattle.mpy_lexer.specs.Seen.{seen_behind}
use Rattle.mpy_lexer.proofs.PieceLengths.{at_front}

-- what was seen in the front of a line, and what is in the parts behind it
abbrev pub seen_with : Seen → List Part → Seen
seen_with seen ps = record {
  is_solid = seen.is_solid || list_any (λ p. is_solid p.sort) ps;
  is_foreign = seen.is_foreign || list_any (λ p. is_foreign p.sort p.bytes) ps;
  is_wrong = seen.is_wrong || list_any (λ p. is_wrong p.sort) ps;
  tokens = seen.tokens ++ tokens_of ps;
}

abbrev pub nothing : Seen
nothing = record { is_solid = false; is_foreign = false; is_wrong = false; tokens = [] }

seen_with-more : (seen : Seen) (p : Part) (ps : List Part) → seen_with seen (p ∷ ps) ≡ seen_with (seen_behind seen p.sort p.from p.bytes) ps
seen_with-more seen p ps =
    rw (
      or_assoc seen.is_solid (is_solid p.sort) (list_any (λ q. is_solid q.sort) ps),
      or_assoc seen.is_foreign (is_foreign p.sort p.bytes) (list_any (λ q. is_foreign q.sort q.bytes) ps),
      or_assoc seen.is_wrong (is_wrong p.sort) (list_any (λ q. is_wrong q.sort) ps),
      append_assoc seen.tokens (token_in p.sort p.from p.bytes) (tokens_of ps),
    ) refl

-- the parts behind bytes that are taken
parts_behind : (form : Form) (from n : ℕ) (text : List ℕ) → parts form from n text ≡ parts form (from + n) 0 (drop n text)
unfolding parts
parts_behind form from zero text = rw add-zero refl
parts_behind form from (suc n) [] = refl
parts_behind form from (suc n) (c ∷ rest) =
    let e : from + 1 + n ≡ from + suc n = omega arith in
    parts_behind form (from + 1) n rest ∙ ap (λ m. parts form m 0 (drop n rest)) e

first_part : (form : Form) (from n : ℕ) (c : ℕ) (rest : List ℕ) → piece_at form (c ∷ rest) ≡ piece_at form (c ∷ rest) → 0 < n → n ≡ (piece_at form (c ∷ rest)).len → parts form from 0 (c ∷ rest) ≡ part (piece_at form (c ∷ rest)) from (c ∷ rest) ∷ parts form (from + n) 0 (drop n (c ∷ rest))
unfolding parts
first_part form from zero c rest same h e = absurd (omega arith)
first_part form from (suc n) c rest same h e =
    let less : (piece_at form (c ∷ rest)).len - 1 ≡ n = omega arith in
    let place : from + 1 + n ≡ from + suc n = omega arith in
    ap (λ ps. part (piece_at form (c ∷ rest)) from (c ∷ rest) ∷ ps) (ap (λ m. parts form (from + 1) m rest) less ∙ parts_behind form (from + 1) n rest ∙ ap (λ m. parts form m 0 (drop n rest)) place)

parts_step : (form : Form) (from : ℕ) (text : List ℕ) → 0 < length text → parts form from 0 text ≡ part (piece_at form text) from text ∷ parts form (from + (piece_at form text).len) 0 (drop (piece_at form text).len text)
parts_step form from [] h = absurd (omega arith)
parts_step form from (c ∷ rest) h = first_part form from (piece_at form (c ∷ rest)).len c rest refl (at_front form (c ∷ rest) h) refl

-- one piece more was seen
pub seen_more : (form : Form) (from at : ℕ) (line : List ℕ) (seen : Seen) (p : Piece) → at < length line → p ≡ piece_at form (drop at line)
    → seen_with seen (parts form (from + at) 0 (drop at line)) ≡ seen_with (seen_behind seen p.sort (from + at) (take (at + p.len - at) (drop at line))) (parts form (from + (at + p.len)) 0 (drop (at + p.len) line))
seen_more form from at line seen p h e =
    let some : 0 < length (drop at line) = omega (arith, length-drop {A = ℕ}) in
    let len : at + p.len - at ≡ p.len = omega arith in
    let place : from + at + p.len ≡ from + (at + p.len) = omega arith in
    let step : parts form (from + at) 0 (drop at line) ≡ part p (from + at) (drop at line) ∷ parts form (from + at + p.len) 0 (drop p.len (drop at line)) = rw e (parts_step form (from + at) (drop at line) some) in
    rw (len, step) (seen_with-more seen (part p (from + at) (drop at line)) (parts form (from + at + p.len) 0 (drop p.len (drop at line))) ∙ rw (place, drop-drop) refl)

seen_with-nil : (seen : Seen) → seen_with seen [] ≡ seen
seen_with-nil seen = rw (or-false seen.is_solid, or-false seen.is_foreign, or-false seen.is_wrong, append-nil seen.tokens) refl

parts_end : (form : Form) (from at : ℕ) (line : List ℕ) → length line ≤ at → parts form from 0 (drop at line) ≡ []
unfolding parts
parts_end form from at line h = rw (drop_all at line h) refl

-- all of the line was seen
pub seen_all : (form : Form) (from at : ℕ) (line : List ℕ) (seen : Seen) → length line ≤ at
    → seen_with seen (parts form (from + at) 0 (drop at line)) ≡ seen_with nothing (parts form from 0 line) → seen ≡ seen_with nothing (parts form from 0 line)
seen_all form from at line seen h e = sym (seen_with-nil seen) ∙ ap (seen_with seen) (sym (parts_end form (from + at) at line h)) ∙ e

-- so the row is that of the line
pub row_seen : (form : Form) (number from column : ℕ) (line : List ℕ) (cause : Option LexCause) (seen : Seen) → seen ≡ seen_with nothing (parts form from 0 line) → column ≡ column_of line
    → cause ≡ cond (is_program form && begins_with_tab line && seen.is_solid) (Some Tab) (cond seen.is_foreign (Some Byte) None)
    → record { number = number; column = column; cause = cause; is_wrong = seen.is_wrong; tokens = seen.tokens } ≡ row_of form number from line
unfolding row_of
row_seen form number from column line cause seen e width why = rw (why, width, e) refl
