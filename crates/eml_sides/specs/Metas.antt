-- The metavariables of rules: `$`, a letter, perhaps a digit, and perhaps a prime.
use Rattle.std.specs.Prelude.{ℕ, ◌-◌, Bool, true, false, ◌&&◌, ◌==◌, if◌then◌else◌, List, [], ◌∷◌}
use Rattle.std.specs.Prelude.{Option, Some, None}
use Rattle.std.specs.Char.{is_ascii_digit}
use Rattle.mpy_lexer.specs.Bytes.{is_meta_letter}
use Rattle.mpy_expressions.specs.declared.terminals.Terminal.{Terminal}
use Rattle.mpy_expressions.specs.declared.terminals.Terminal.TheVariants as terminal
use Rattle.choice_tree.specs.declared.rules.Meta.{Meta}
use Rattle.choice_tree.specs.declared.forms.Mark.{Mark}
use Rattle.choice_tree.specs.declared.forms.Mark.TheVariants as mark

abbrev meta_by : ℕ → Option ℕ → Bool → Option Meta
meta_by letter digit primed = Some (record { letter = letter; digit = digit; primed = primed })

-- what stands behind the letter: perhaps a digit, by its value, and perhaps a prime
abbrev pub meta_ending : ℕ → List ℕ → Option Meta
meta_ending letter [] = meta_by letter None false
meta_ending letter (c ∷ []) =
    if c == 39 then meta_by letter None true
    else if is_ascii_digit c then meta_by letter (Some (c - 48)) false else None
meta_ending letter (c ∷ d ∷ []) =
    if is_ascii_digit c && d == 39 then meta_by letter (Some (c - 48)) true else None
meta_ending letter (c ∷ d ∷ e ∷ rest) = None

-- the metavariable that the bytes spell, if they spell one
abbrev pub meta_of : List ℕ → Option Meta
meta_of [] = None
meta_of (c ∷ []) = None
meta_of (c ∷ letter ∷ rest) =
    if c == 36 && is_meta_letter letter then meta_ending letter rest else None

-- $o is an operator, $c a comparison, and the others stand in the place of an expression
abbrev pub meta_terminal : Option Meta → Terminal Mark
meta_terminal None = terminal.Other
meta_terminal (Some m) =
    if m.letter == 111 then terminal.Operator (mark.Meta m)
    else if m.letter == 99 then terminal.Comparator (mark.Meta m)
    else terminal.Special (mark.Meta m)
