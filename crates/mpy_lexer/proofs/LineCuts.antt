-- The physical lines of a text, one after another.
use Rattle.std.proofs.Common.{◌≡◌, ℕ, ◌+◌, ◌-◌, ◌<◌, ◌≤◌, Bool, true, false, cond, List, [], ◌∷◌, ◌++◌, length, take, drop, refl, sym, append_assoc, arith, one-add, length-drop, eqb}
use Rattle.std.proofs.lemmas.List.{drop-drop, drop_all, length-take-le}
use Rattle.mpy_lexer.specs.declared.forms.Form.{Form}
use Rattle.mpy_lexer.specs.declared.rows.Row.{Row}
use Rattle.mpy_lexer.specs.PhysicalLines.{with_byte, physical_lines, row_of, rows_of}
use Rattle.mpy_lexer.specs.Seen.{line_len}

line_cut : (b : Bool) (c : ℕ) (rest : List ℕ) → physical_lines rest ≡ take (line_len rest) rest ∷ physical_lines (drop (line_len rest) rest)
    → cond b ((c ∷ []) ∷ physical_lines rest) (with_byte c (physical_lines rest)) ≡ take (cond b 1 (1 + line_len rest)) (c ∷ rest) ∷ physical_lines (drop (cond b 1 (1 + line_len rest)) (c ∷ rest))
line_cut true c rest e = refl
line_cut false c rest e = rw (one-add, e) refl

last_cut : (b : Bool) (c : ℕ) → cond b ((c ∷ []) ∷ physical_lines []) (with_byte c (physical_lines [])) ≡ take (cond b 1 (1 + line_len [])) (c ∷ []) ∷ physical_lines (drop (cond b 1 (1 + line_len [])) (c ∷ []))
unfolding physical_lines line_len
last_cut true c = refl
last_cut false c = refl

lines_step : (text : List ℕ) → 0 < length text → physical_lines text ≡ take (line_len text) text ∷ physical_lines (drop (line_len text) text)
unfolding physical_lines line_len
lines_step [] h = absurd (omega arith)
lines_step (c ∷ []) h = last_cut (eqb c 10) c
lines_step (c ∷ d ∷ rest) h = line_cut (eqb c 10) c (d ∷ rest) (lines_step (d ∷ rest) (omega arith))

len_some : (b : Bool) (n : ℕ) → 0 < cond b 1 (1 + n)
len_some true n = omega arith
len_some false n = omega arith

-- a line has at least one byte
pub line_some : (text : List ℕ) → 0 < length text → 0 < line_len text
unfolding line_len
line_some [] h = absurd (omega arith)
line_some (c ∷ rest) h = len_some (eqb c 10) (line_len rest)

rows_step : (form : Form) (number from : ℕ) (l : List ℕ) (ls : List (List ℕ)) → rows_of form number from (l ∷ ls) ≡ row_of form number from l ∷ rows_of form (number + 1) (from + length l) ls
unfolding rows_of
rows_step form number from l ls = refl

-- one row more
pub rows_more : (form : Form) (number at n : ℕ) (bytes : List ℕ) (done : List Row) (r : Row) → at < length bytes → n ≡ line_len (drop at bytes) → n ≤ length (drop at bytes) → r ≡ row_of form number at (take (at + n - at) (drop at bytes))
    → done ++ rows_of form number at (physical_lines (drop at bytes)) ≡ (done ++ r ∷ []) ++ rows_of form (number + 1) (at + n) (physical_lines (drop (at + n) bytes))
rows_more form number at n bytes done r h e within is =
    let some : 0 < length (drop at bytes) = omega (arith, length-drop {A = ℕ}) in
    let len : at + n - at ≡ n = omega arith in
    let size : length (take n (drop at bytes)) ≡ n = length-take-le n (drop at bytes) within in
    let step : physical_lines (drop at bytes) ≡ take n (drop at bytes) ∷ physical_lines (drop n (drop at bytes)) = rw e (lines_step (drop at bytes) some) in
    let first : row_of form number at (take n (drop at bytes)) ≡ r = sym (rw len at is) in
    rw (step, rows_step form number at (take n (drop at bytes)) (physical_lines (drop n (drop at bytes))), first, size, drop-drop n at bytes) (sym (append_assoc done (r ∷ []) _))

pub rows_end : (form : Form) (number at : ℕ) (bytes : List ℕ) → length bytes ≤ at → rows_of form number at (physical_lines (drop at bytes)) ≡ []
unfolding rows_of physical_lines
rows_end form number at bytes h = rw (drop_all at bytes h) refl
