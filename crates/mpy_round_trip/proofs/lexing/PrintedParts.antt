-- The parts of a printed line: its tokens, and white space.
use Rattle.std.proofs.Common.{◌≡◌, ℕ, suc, ◌+◌, ◌-◌, Bool, true, false, cond, List, [], ◌∷◌, ◌++◌, length, take, map, refl, ap, ◌∙◌, arith, one-add, add-zero, append_assoc}
use Rattle.std.specs.List.{prefix_len, list_all, list_any}
use Rattle.std.proofs.lemmas.Bool.{and_parts, or_parts}
use Rattle.std.proofs.Math.Seq.{take-append_seam}
use Rattle.mpy_lexer.specs.declared.forms.Form.TheVariants.{Program}
use Rattle.mpy_lexer.specs.declared.forms.Kind.{Kind}
use Rattle.mpy_lexer.specs.declared.forms.Kind.TheVariants.{Name, Reserved, Number, Text, Mark, Meta}
use Rattle.mpy_lexer.specs.Words.{is_reserved}
use Rattle.mpy_lexer.specs.Bytes.{is_white}
use Rattle.mpy_lexer.specs.Pieces.{Part, piece_at, parts}
use Rattle.mpy_lexer.specs.PhysicalLines.{is_wrong, is_foreign, token_in, tokens_of, has_foreign_byte}
use Rattle.mpy_lexer.specs.TokenForms.{has_form}
use Rattle.mpy_lexer.specs.TextLiterals.{is_printable}
use Rattle.mpy_round_trip.proofs.Scraps.{Scrap, gap, word, bytes_of, next_byte, AreApart, scrap_of, words_in}
use Rattle.mpy_round_trip.proofs.lexing.TokenPieces.{Piece, IsToken, token_piece}

-- parts that are these tokens and white space, with no byte that may not stand there
pub record AreWords (ss : List Scrap) (ps : List Part) : Type 0 where
  pub tokens : map scrap_of (tokens_of ps) ≡ words_in ss
  pub right : list_any (λ p. is_wrong p.sort) ps ≡ false
  pub plain : list_any (λ p. is_foreign p.sort p.bytes) ps ≡ false

-- the scraps' bytes and the end of the line
abbrev pub line_of : List Scrap → List ℕ
line_of ss = bytes_of ss ++ 10 ∷ []

-- the parts behind bytes that are taken
parts_past : (from : ℕ) (xs rest : List ℕ) → parts Program from (length xs) (xs ++ rest) ≡ parts Program (from + length xs) 0 rest
unfolding parts
parts_past from [] rest = rw add-zero refl
parts_past from (x ∷ xs) rest =
    let e : from + 1 + length xs ≡ from + suc (length xs) = omega arith in
    parts_past (from + 1) xs rest ∙ ap (λ m. parts Program m 0 rest) e

parts_front : (from x : ℕ) (xs : List ℕ) → parts Program from 0 (x ∷ xs) ≡ record { sort = (piece_at Program (x ∷ xs)).sort; from = from; bytes = take (piece_at Program (x ∷ xs)).len (x ∷ xs) } ∷ parts Program (from + 1) ((piece_at Program (x ∷ xs)).len - 1) xs
unfolding parts
parts_front from x xs = refl

printable_plain : (bytes : List ℕ) → list_all is_printable bytes ≡ true → has_foreign_byte false bytes ≡ false
unfolding has_foreign_byte
printable_plain [] all = refl
printable_plain (c ∷ bytes) all =
    let both = and_parts (is_printable c) (list_all is_printable bytes) all in
    rw (both.0, printable_plain bytes both.1) refl

token_first : (k : Kind) (x : ℕ) (xs rest : List ℕ) (from : ℕ) (ss : List Scrap) → IsToken k (length (x ∷ xs)) (piece_at Program (x ∷ xs ++ rest)) → list_all is_printable (x ∷ xs) ≡ true
    → AreWords ss (parts Program (from + 1 + length xs) 0 rest) → AreWords (word k (x ∷ xs) ∷ ss) (parts Program from 0 (x ∷ xs ++ rest))
token_first k x xs rest from ss is printable others =
    let behind : (piece_at Program (x ∷ xs ++ rest)).len - 1 ≡ length xs = rw is.len (omega arith) in
    let bytes : take (piece_at Program (x ∷ xs ++ rest)).len (x ∷ xs ++ rest) ≡ x ∷ xs = rw is.len (take-append_seam (x ∷ xs) rest) in
    rw (parts_front from x (xs ++ rest), behind, bytes, parts_past (from + 1) xs rest)
    record {
      tokens = rw is.tokens (ap (λ l. word k (x ∷ xs) ∷ l) others.tokens);
      right = rw (is.right, others.right) refl;
      plain = rw (is.foreign (x ∷ xs), printable_plain (x ∷ xs) printable, others.plain) refl;
    }

-- the piece is white space, so many bytes long
record IsSpace (n : ℕ) (p : Piece) : Type 0 where
  len : p.len ≡ n
  right : is_wrong p.sort ≡ false
  plain : (bytes : List ℕ) → is_foreign p.sort bytes ≡ has_foreign_byte true bytes
  tokens : (from : ℕ) (bytes : List ℕ) → token_in p.sort from bytes ≡ []

space_piece : (c : ℕ) (rest : List ℕ) → is_white c ≡ true → IsSpace (1 + prefix_len is_white rest) (piece_at Program (c ∷ rest))
unfolding piece_at
space_piece c rest e = rw e record { len = refl; right = refl; plain = λ bytes. refl; tokens = λ from bytes. refl }

-- what is in parts where the first is white space
record IsSpaced (ss : List Scrap) (bytes : List ℕ) (ps : List Part) : Type 0 where
  others : AreWords ss ps
  plain : has_foreign_byte true bytes ≡ false

space_front : (from c : ℕ) (rest : List ℕ) (ss : List Scrap) → is_white c ≡ true → IsSpaced ss (c ∷ take (prefix_len is_white rest) rest) (parts Program (from + 1) (prefix_len is_white rest) rest) → AreWords ss (parts Program from 0 (c ∷ rest))
space_front from c rest ss white inside =
    let is = space_piece c rest white in
    let behind : (piece_at Program (c ∷ rest)).len - 1 ≡ prefix_len is_white rest = rw is.len (omega arith) in
    let bytes : take (piece_at Program (c ∷ rest)).len (c ∷ rest) ≡ c ∷ take (prefix_len is_white rest) rest = rw (is.len, one-add) refl in
    rw (parts_front from c rest, behind, bytes)
    record {
      tokens = rw is.tokens inside.others.tokens;
      right = rw (is.right, inside.others.right) refl;
      plain = rw (is.plain (c ∷ take (prefix_len is_white rest) rest), inside.plain, inside.others.plain) refl;
    }

space_behind : (from c : ℕ) (rest : List ℕ) (ss : List Scrap) → is_white c ≡ true → AreWords ss (parts Program from 0 (c ∷ rest)) → IsSpaced ss (c ∷ take (prefix_len is_white rest) rest) (parts Program (from + 1) (prefix_len is_white rest) rest)
space_behind from c rest ss white all =
    let is = space_piece c rest white in
    let behind : (piece_at Program (c ∷ rest)).len - 1 ≡ prefix_len is_white rest = rw is.len (omega arith) in
    let bytes : take (piece_at Program (c ∷ rest)).len (c ∷ rest) ≡ c ∷ take (prefix_len is_white rest) rest = rw (is.len, one-add) refl in
    let seen : AreWords ss (record { sort = (piece_at Program (c ∷ rest)).sort; from = from; bytes = c ∷ take (prefix_len is_white rest) rest } ∷ parts Program (from + 1) (prefix_len is_white rest) rest) = rw (parts_front from c rest, behind, bytes) at all in
    let plain = or_parts (is_foreign (piece_at Program (c ∷ rest)).sort (c ∷ take (prefix_len is_white rest) rest)) (list_any (λ p. is_foreign p.sort p.bytes) (parts Program (from + 1) (prefix_len is_white rest) rest)) seen.plain in
    record {
      others = record {
        tokens = rw is.tokens at seen.tokens;
        right = (or_parts (is_wrong (piece_at Program (c ∷ rest)).sort) (list_any (λ p. is_wrong p.sort) (parts Program (from + 1) (prefix_len is_white rest) rest)) seen.right).1;
        plain = plain.1;
      };
      plain = rw is.plain at plain.0;
    }

with_space : (bytes : List ℕ) → has_foreign_byte true bytes ≡ false → has_foreign_byte true (32 ∷ bytes) ≡ false
unfolding has_foreign_byte
with_space bytes e = e

no_bytes : has_foreign_byte true [] ≡ false
unfolding has_foreign_byte
no_bytes = refl

run_case : (b : Bool) (from c : ℕ) (rest : List ℕ) (ss : List Scrap) → is_white c ≡ b → ((from : ℕ) → AreWords ss (parts Program from 0 (c ∷ rest)))
    → IsSpaced ss (32 ∷ take (cond b (1 + prefix_len is_white rest) 0) (c ∷ rest)) (parts Program (from + 1) (cond b (1 + prefix_len is_white rest) 0) (c ∷ rest))
unfolding parts
run_case true from c rest ss white all =
    let inside = space_behind (from + 1) c rest ss white (all (from + 1)) in
    rw one-add record { others = inside.others; plain = with_space (c ∷ take (prefix_len is_white rest) rest) inside.plain }
run_case false from c rest ss white all = record { others = all (from + 1); plain = with_space [] no_bytes }

-- one more space in front of a line
gap_first : (from : ℕ) (text : List ℕ) (c : ℕ) (rest : List ℕ) (ss : List Scrap) → text ≡ c ∷ rest → ((from : ℕ) → AreWords ss (parts Program from 0 text)) → AreWords ss (parts Program from 0 (32 ∷ text))
gap_first from text c rest ss e all = rw e (space_front from 32 (c ∷ rest) ss refl (run_case (is_white c) from c rest ss refl (rw e at all)))

end_words : (from : ℕ) → AreWords [] (parts Program from 0 (10 ∷ []))
unfolding parts piece_at has_foreign_byte
end_words from = record { tokens = refl; right = refl; plain = refl }

-- what the first byte is
pub line_begins : (ss : List Scrap) → (rest : List ℕ) × (line_of ss ≡ next_byte ss ∷ rest)
line_begins [] = ([], refl)
line_begins (gap ∷ ss) = (line_of ss, refl)
line_begins (word k [] ∷ ss) = line_begins ss
line_begins (word k (c ∷ bytes) ∷ ss) = ((bytes ++ bytes_of ss) ++ 10 ∷ [], refl)

pub empty_form : (k : Kind) → has_form Program k [] ≡ true → ⊥
unfolding is_reserved
empty_form Name e = cc
empty_form Reserved e = cc
empty_form Number e = cc
empty_form Text e = cc
empty_form Mark e = cc
empty_form Meta e = cc

word_first : (from : ℕ) (k : Kind) (bytes : List ℕ) (ss : List Scrap) → AreApart (word k bytes ∷ ss) → ((from : ℕ) → AreWords ss (parts Program from 0 (line_of ss))) → AreWords (word k bytes ∷ ss) (parts Program from 0 (bytes ++ line_of ss))
word_first from k [] ss apart others = absurd (empty_form k apart.0)
word_first from k (x ∷ xs) ss apart others =
    let rest = line_begins ss in
    let is : IsToken k (length (x ∷ xs)) (piece_at Program (x ∷ xs ++ line_of ss)) = rw rest.1 (token_piece k (x ∷ xs) (next_byte ss) rest.0 apart.0 apart.2) in
    token_first k x xs (line_of ss) from ss is apart.1 (others (from + 1 + length xs))

with_gap : (ss : List Scrap) (ps : List Part) → AreWords ss ps → AreWords (gap ∷ ss) ps
with_gap ss ps all = record { tokens = all.tokens; right = all.right; plain = all.plain }

-- the parts of a line
pub line_words : (ss : List Scrap) (from : ℕ) → AreApart ss → AreWords ss (parts Program from 0 (line_of ss))
line_words [] from apart = end_words from
line_words (gap ∷ ss) from apart = let rest = line_begins ss in with_gap ss (parts Program from 0 (32 ∷ line_of ss)) (gap_first from (line_of ss) (next_byte ss) rest.0 ss rest.1 (λ at. line_words ss at apart))
line_words (word k bytes ∷ ss) from apart = rw (append_assoc bytes (bytes_of ss) (10 ∷ [])) (word_first from k bytes ss apart (λ at. line_words ss at apart.3))
