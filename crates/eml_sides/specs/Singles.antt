-- What the grammar sees of one token of a side, whatever stands beside it.
use Rattle.std.specs.Prelude.{ℕ, Bool, true, false, ◌&&◌, ◌||◌, if◌then◌else◌, nat_eq, codes, List}
use Rattle.std.specs.Cmp.Lexicographic.{pointwise}
use Rattle.mpy_lexer.specs.declared.forms.Kind.{Kind}
use Rattle.mpy_lexer.specs.declared.forms.Kind.TheVariants as kind
use Rattle.mpy_lexer.specs.declared.token.Token.{Token}
use Rattle.mpy_expressions.specs.declared.words.Word.TheVariants as word
use Rattle.mpy_expressions.specs.declared.terminals.Terminal.{Terminal}
use Rattle.mpy_expressions.specs.declared.terminals.Terminal.TheVariants as terminal
use Rattle.mpy_expressions.specs.Terminals.{terminal_of}
use Rattle.choice_tree.specs.declared.forms.Mark.{Mark}
use Rattle.eml_sides.specs.Metas.{meta_of, meta_terminal}

abbrev pub is_punctuation : Kind → Bool
is_punctuation kind.Mark = true
is_punctuation _ = false

-- a mark with these bytes
abbrev pub is_mark : List ℕ → Token → Bool
is_mark bytes t = is_punctuation t.kind && pointwise nat_eq t.text bytes

-- a token that stands in right sides alone
abbrev pub is_right_alone : Token → Bool
is_right_alone t = is_mark (codes "{") t || is_mark (codes "}") t || is_mark (codes "?") t

-- what the grammar sees of programs
abbrev pub in_rules : Terminal Unit → Terminal Mark
in_rules (terminal.Name x) = terminal.Name x
in_rules (terminal.Number n) = terminal.Number n
in_rules (terminal.Text cs) = terminal.Text cs
in_rules (terminal.Word w) = terminal.Word w
in_rules _ = terminal.Other

abbrev pub other_single_by : Kind → Token → Terminal Mark
other_single_by kind.Meta t = meta_terminal (meta_of t.text)
other_single_by _ t = in_rules (terminal_of t)

abbrev pub other_single : Token → Terminal Mark
other_single t = other_single_by t.kind t

-- The braces are words here; a metavariable is by its letter; all else is what it is in programs.
abbrev pub single : Token → Terminal Mark
single t =
    if is_mark (codes "{") t then terminal.Word word.LeftBrace
    else if is_mark (codes "}") t then terminal.Word word.RightBrace
    else other_single t
