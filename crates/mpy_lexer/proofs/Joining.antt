-- Logical lines, joined step by step.
use Rattle.std.proofs.Common.{◌≡◌, ℕ, true, false, List, [], ◌∷◌, ◌++◌, length, refl, sym, ap, ◌∙◌, append_assoc, append-nil, ◌<◌, ◌≤◌, arith}
use Rattle.mpy_lexer.specs.declared.brackets.Bracket.{Bracket}
use Rattle.mpy_lexer.specs.declared.line.Line.{Line}
use Rattle.mpy_lexer.specs.declared.rows.Row.{Row}
use Rattle.mpy_lexer.specs.declared.token.Token.{Token}
use Rattle.mpy_lexer.specs.Brackets.{is_empty, open_after}
use Rattle.mpy_lexer.specs.Lexing.{continued, logical_lines}
use Rattle.mpy_lexer.specs.Seen.{with_more}

pub with_more-last : (ls : List Line) (l : Line) (more : List Token) → with_more (ls ++ l ∷ []) more ≡ ls ++ record l { tokens = l.tokens ++ more } ∷ []
unfolding with_more
with_more-last [] l more = refl
with_more-last (k ∷ []) l more = refl
with_more-last (k ∷ m ∷ ls) l more = ap (λ xs. k ∷ xs) (with_more-last (m ∷ ls) l more)

pub with_more-none : (more : List Token) → with_more [] more ≡ []
unfolding with_more
with_more-none more = refl

with_more-nil : (ls : List Line) → with_more ls [] ≡ ls
unfolding with_more
with_more-nil [] = refl
with_more-nil (l ∷ []) = rw (append-nil l.tokens) refl
with_more-nil (k ∷ m ∷ ls) = ap (λ xs. k ∷ xs) (with_more-nil (m ∷ ls))

with_more-twice : (ls : List Line) (a b : List Token) → with_more (with_more ls a) b ≡ with_more ls (a ++ b)
unfolding with_more
with_more-twice [] a b = refl
with_more-twice (l ∷ []) a b = rw (append_assoc l.tokens a b) refl
with_more-twice (k ∷ l ∷ []) a b = rw (append_assoc l.tokens a b) refl
with_more-twice (k ∷ l ∷ m ∷ ls) a b = ap (λ xs. k ∷ xs) (with_more-twice (l ∷ m ∷ ls) a b)

-- the lines so far, and what the rows that are left make of them
abbrev pub joined : List Line → List Bracket → List Row → List Line
joined ls opened rs = with_more ls (continued opened rs) ++ logical_lines opened rs

joined_open : (ls : List Line) (b : Bracket) (outer : List Bracket) (r : Row) (rs : List Row) → joined ls (b ∷ outer) (r ∷ rs) ≡ joined (with_more ls r.tokens) (open_after r.number (b ∷ outer) r.tokens) rs
unfolding continued logical_lines
joined_open ls b outer r rs = rw (with_more-twice ls r.tokens (continued (open_after r.number (b ∷ outer) r.tokens) rs)) refl

-- a row while a bracket is open
joined_more : (ls : List Line) (opened : List Bracket) (r : Row) (rs : List Row) → is_empty opened ≡ false → joined ls opened (r ∷ rs) ≡ joined (with_more ls r.tokens) (open_after r.number opened r.tokens) rs
joined_more ls [] r rs e = absurd cc
joined_more ls (b ∷ outer) r rs e = joined_open ls b outer r rs

nothing_opened : (n : ℕ) (ts : List Token) → length ts ≤ 0 → open_after n [] ts ≡ []
unfolding open_after
nothing_opened n [] h = refl
nothing_opened n (t ∷ ts) h = absurd (omega arith)

continued-nil : (rs : List Row) → continued [] rs ≡ []
unfolding continued
continued-nil rs = refl

logical_empty : (n c : ℕ) (rs : List Row) (r : Row) (ts : List Token) → length ts ≤ 0 → r.tokens ≡ ts → logical_lines [] (r ∷ rs) ≡ logical_lines (open_after r.number [] ts) rs
unfolding logical_lines
logical_empty n c rs r [] h e = rw e refl
logical_empty n c rs r (t ∷ ts) h e = absurd (omega arith)

-- a row with no token where no bracket is open
joined_empty : (ls : List Line) (r : Row) (rs : List Row) → length r.tokens ≤ 0 → joined ls [] (r ∷ rs) ≡ joined ls (open_after r.number [] r.tokens) rs
joined_empty ls r rs h =
    let none : open_after r.number [] r.tokens ≡ [] = nothing_opened r.number r.tokens h in
    rw (continued-nil (r ∷ rs), logical_empty 0 0 rs r r.tokens h refl, none, continued-nil rs) refl

logical_begins : (r : Row) (rs : List Row) (ts : List Token) → 0 < length ts → r.tokens ≡ ts
    → logical_lines [] (r ∷ rs) ≡ record { line = r.number; column = r.column; tokens = r.tokens ++ continued (open_after r.number [] r.tokens) rs } ∷ logical_lines (open_after r.number [] r.tokens) rs
unfolding logical_lines
logical_begins r rs [] h e = absurd (omega arith)
logical_begins r rs (t ∷ ts) h e = rw e refl

-- a row with a token where no bracket is open
joined_begins : (ls : List Line) (r : Row) (rs : List Row) → 0 < length r.tokens
    → joined ls [] (r ∷ rs) ≡ joined (ls ++ record { line = r.number; column = r.column; tokens = r.tokens } ∷ []) (open_after r.number [] r.tokens) rs
joined_begins ls r rs h =
    rw (continued-nil (r ∷ rs), with_more-nil ls, logical_begins r rs r.tokens h refl, with_more-last ls (record { line = r.number; column = r.column; tokens = r.tokens }) (continued (open_after r.number [] r.tokens) rs))
    (sym (append_assoc ls (record { line = r.number; column = r.column; tokens = r.tokens ++ continued (open_after r.number [] r.tokens) rs } ∷ []) (logical_lines (open_after r.number [] r.tokens) rs)))

pub joined_start : (rs : List Row) → joined [] [] rs ≡ logical_lines [] rs
unfolding with_more continued
joined_start rs = refl

pub joined_end : (ls : List Line) (opened : List Bracket) → joined ls opened [] ≡ ls
unfolding continued logical_lines
joined_end ls [] = rw (with_more-nil ls, append-nil ls) refl
joined_end ls (b ∷ outer) = rw (with_more-nil ls, append-nil ls) refl

-- the same for what is left of the rows
pub step_more : (ls : List Line) (opened next : List Bracket) (r : Row) (rest items : List Row) (all : List Line) → items ≡ r ∷ rest → is_empty opened ≡ false → next ≡ open_after r.number opened r.tokens
    → joined ls opened items ≡ all → joined (with_more ls r.tokens) next rest ≡ all
step_more ls opened next r rest items all is some step so_far = rw step (sym (joined_more ls opened r rest some) ∙ ap (joined ls opened) (sym is) ∙ so_far)

pub step_empty : (ls : List Line) (opened next : List Bracket) (r : Row) (rest items : List Row) (all : List Line) → items ≡ r ∷ rest → is_empty opened ≡ true → length r.tokens ≤ 0 → next ≡ open_after r.number opened r.tokens
    → joined ls opened items ≡ all → joined ls next rest ≡ all
step_empty ls [] next r rest items all is none h step so_far = rw step (sym (joined_empty ls r rest h) ∙ ap (joined ls []) (sym is) ∙ so_far)
step_empty ls (b ∷ outer) next r rest items all is none h step so_far = absurd cc

pub step_begins : (ls : List Line) (opened next : List Bracket) (r : Row) (rest items : List Row) (all : List Line) → items ≡ r ∷ rest → is_empty opened ≡ true → 0 < length r.tokens → next ≡ open_after r.number opened r.tokens
    → joined ls opened items ≡ all → joined (ls ++ record { line = r.number; column = r.column; tokens = r.tokens } ∷ []) next rest ≡ all
step_begins ls [] next r rest items all is none h step so_far = rw step (sym (joined_begins ls r rest h) ∙ ap (joined ls []) (sym is) ∙ so_far)
step_begins ls (b ∷ outer) next r rest items all is none h step so_far = absurd cc
