-- The physical lines of a text, one after another.
use Rattle.std.proofs.Common.{◌≡◌, ℕ, ◌+◌, ◌-◌, ◌<◌, ◌≤◌, Bool, true, false, cond, List, [], ◌∷◌, ◌++◌, length, take, drop, refl, sym, append_assoc, arith, one-add, length-drop, eqb}
use Rattle.std.proofs.lemmas.List.{drop-drop, drop_all}
use Rattle.mpy_lexer.specs.PhysicalLines.{with_byte, physical_lines}
use Rattle.mpy_lexer.specs.Seen.{line_len}

line_cut : (b : Bool) (c : ℕ) (rest : List ℕ) → physical_lines rest ≡ take (line_len rest) rest ∷ physical_lines (drop (line_len rest) rest)
    → cond b ((c ∷ []) ∷ physical_lines rest) (with_byte c (physical_lines rest)) ≡ take (cond b 1 (1 + line_len rest)) (c ∷ rest) ∷ physical_lines (drop (cond b 1 (1 + line_len rest)) (c ∷ rest))
line_cut true c rest e = refl
line_cut false c rest e = rw (one-add, e) refl

last_cut : (b : Bool) (c : ℕ) → cond b ((c ∷ []) ∷ physical_lines []) (with_byte c (physical_lines [])) ≡ take (cond b 1 (1 + line_len [])) (c ∷ []) ∷ physical_lines (drop (cond b 1 (1 + line_len [])) (c ∷ []))
unfolding physical_lines line_len
last_cut true c = refl
last_cut false c = refl

lines_step : (text : List ℕ) → 0 < length text → physical_lines text ≡ take (line_len text) text ∷ physical_lines (drop (line_len text) text)
unfolding physical_lines line_len
lines_step [] h = absurd (omega arith)
lines_step (c ∷ []) h = last_cut (eqb c 10) c
lines_step (c ∷ d ∷ rest) h = line_cut (eqb c 10) c (d ∷ rest) (lines_step (d ∷ rest) (omega arith))

-- one line more
pub lines_more : (at n : ℕ) (bytes : List ℕ) (done : List (List ℕ)) (l : List ℕ) → at < length bytes → n ≡ line_len (drop at bytes) → l ≡ take (at + n - at) (drop at bytes)
    → done ++ physical_lines (drop at bytes) ≡ (done ++ l ∷ []) ++ physical_lines (drop (at + n) bytes)
lines_more at n bytes done l h e is =
    let some : 0 < length (drop at bytes) = omega (arith, length-drop {A = ℕ}) in
    let len : at + n - at ≡ n = omega arith in
    let step : physical_lines (drop at bytes) ≡ take n (drop at bytes) ∷ physical_lines (drop n (drop at bytes)) = rw e (lines_step (drop at bytes) some) in
    let first : take n (drop at bytes) ≡ l = sym (rw len at is) in
    rw (step, first, drop-drop n at bytes) (sym (append_assoc done (l ∷ []) _))

pub no_lines : (at : ℕ) (bytes : List ℕ) → length bytes ≤ at → physical_lines (drop at bytes) ≡ []
unfolding physical_lines
no_lines at bytes h = rw (drop_all at bytes h) refl
