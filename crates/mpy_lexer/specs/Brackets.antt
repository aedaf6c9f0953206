-- Brackets: each closing one closes the innermost that is open, if that is its partner.
use Rattle.std.specs.Prelude.{ℕ, Bool, true, false, not, ◌&&◌, ◌||◌, ◌==◌, List, [], ◌∷◌}
use Rattle.std.specs.Prelude.{if◌then◌else◌}
use Rattle.mpy_lexer.specs.declared.forms.Kind.{Kind}
use Rattle.mpy_lexer.specs.declared.forms.Kind.TheVariants.{Mark}
use Rattle.mpy_lexer.specs.declared.token.Token.{Token}
use Rattle.mpy_lexer.specs.declared.brackets.Bracket.{Bracket}

-- the first byte of a mark, and 0 for another token; brackets are marks of one byte
abbrev pub first_of_mark : Kind → List ℕ → ℕ
first_of_mark Mark (c ∷ rest) = c
first_of_mark _ _ = 0

abbrev pub mark_of : Token → ℕ
mark_of t = first_of_mark t.kind t.text

abbrev pub is_opening : ℕ → Bool
is_opening c = c == 40 || c == 91 || c == 123

abbrev pub is_closing : ℕ → Bool
is_closing c = c == 41 || c == 93 || c == 125

-- ( and ), [ and ], { and }
abbrev pub are_partners : ℕ → ℕ → Bool
are_partners opening c =
    (opening == 40 && c == 41) || (opening == 91 && c == 93) || (opening == 123 && c == 125)

abbrev pub is_empty : {A : Type 0} → List A → Bool
is_empty [] = true
is_empty (x ∷ xs) = false

-- whether the byte closes the innermost open bracket
abbrev pub closes : List Bracket → ℕ → Bool
closes [] c = false
closes (b ∷ outer) c = are_partners b.mark c

abbrev pub outer_of : List Bracket → List Bracket
outer_of [] = []
outer_of (b ∷ outer) = outer

-- the brackets that are open behind a byte, the innermost first
abbrev pub open_behind : ℕ → List Bracket → ℕ → List Bracket
open_behind line opened c =
    if is_opening c then record { mark = c; line = line } ∷ opened
    else if closes opened c then outer_of opened
    else opened

-- and behind the tokens of a line
unfoldable pub open_after : ℕ → List Bracket → List Token → List Bracket
open_after line opened [] = opened
open_after line opened (t ∷ ts) = open_after line (open_behind line opened (mark_of t)) ts

-- whether a closing bracket among the tokens closes nothing
unfoldable pub has_unmatched : ℕ → List Bracket → List Token → Bool
has_unmatched line opened [] = false
has_unmatched line opened (t ∷ ts) =
    (is_closing (mark_of t) && not (closes opened (mark_of t)))
    || has_unmatched line (open_behind line opened (mark_of t)) ts
