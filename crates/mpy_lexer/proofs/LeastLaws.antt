-- The least line, found step by step.
use Rattle.std.proofs.Common.{◌≡◌, ℕ, ◌+◌, ◌<◌, ◌≤◌, Bool, true, false, ◌||◌, cond, List, [], ◌∷◌, ◌++◌, length, drop, map, reverse, get_or, Option, None, Some, refl, sym, ap, ◌∙◌}
use Rattle.std.proofs.lemmas.List.{reverse-append, at_drop_more, at_drop_all}
use Rattle.mpy_lexer.specs.declared.brackets.Bracket.{Bracket}
use Rattle.mpy_lexer.specs.declared.rows.Row.{Row}
use Rattle.mpy_lexer.specs.Brackets.{open_after, has_unmatched}
use Rattle.mpy_tree.specs.Leasts.{lesser, least}
use Rattle.mpy_tree.proofs.Leasts.{lesser_assoc}
use Rattle.mpy_lexer.specs.Lexing.{faulty_lines}

least-cons : (n : ℕ) (ns : List ℕ) → least (n ∷ ns) ≡ lesser (Some n) (least ns)
unfolding least
least-cons n ns = refl

pub least-nil : least [] ≡ None
unfolding least
least-nil = refl

abbrev line_of : Bracket → ℕ
line_of b = b.line

abbrev pub open_lines : List Bracket → List ℕ
open_lines bs = map (λ b. b.line) bs

-- one bracket less
pub open_less : (line : Option ℕ) (items rest : List Bracket) (b : Bracket) → items ≡ rest ++ b ∷ [] → lesser line (least (open_lines (reverse items))) ≡ lesser (lesser line (Some b.line)) (least (open_lines (reverse rest)))
open_less line items rest b e = rw (e, reverse-append rest (b ∷ []), least-cons b.line (open_lines (reverse rest))) (sym (lesser_assoc line (Some b.line) (least (open_lines (reverse rest)))))

faulty_case : (b : Bool) (line : Option ℕ) (n : ℕ) (ns : List ℕ) → lesser line (least ((cond b (n ∷ []) []) ++ ns)) ≡ lesser (cond b (lesser line (Some n)) line) (least ns)
faulty_case true line n ns = rw (least-cons n ns) (sym (lesser_assoc line (Some n) (least ns)))
faulty_case false line n ns = refl

-- one row more
pub faulty_more : (line : Option ℕ) (opened : List Bracket) (rs : List Row) (i : ℕ) (r : Row) → i < length rs → r ≡ get_or rs i r
    → lesser line (least (faulty_lines opened (drop i rs))) ≡ lesser (cond (r.is_wrong || has_unmatched r.number opened r.tokens) (lesser line (Some r.number)) line) (least (faulty_lines (open_after r.number opened r.tokens) (drop (i + 1) rs)))
unfolding faulty_lines
faulty_more line opened rs i r h is =
    let step : faulty_lines opened (drop i rs) ≡ faulty_lines opened (r ∷ drop (i + 1) rs) = at_drop_more (faulty_lines opened) rs i r h ∙ ap (λ q. faulty_lines opened (q ∷ drop (i + 1) rs)) (sym is) in
    rw step (faulty_case (r.is_wrong || has_unmatched r.number opened r.tokens) line r.number (faulty_lines (open_after r.number opened r.tokens) (drop (i + 1) rs)))

pub faulty_end : (opened : List Bracket) (rs : List Row) (i : ℕ) → length rs ≤ i → faulty_lines opened (drop i rs) ≡ open_lines opened
unfolding faulty_lines
faulty_end opened rs i h = at_drop_all (faulty_lines opened) rs i h
