-- Reading a side: its place and its expression, if all the terminals spell one.
use Rattle.std.specs.Prelude.{Bool, true, false, ◌==◌, if◌then◌else◌, List, [], ◌∷◌, Option, Some}
use Rattle.std.specs.Prelude.{None}
use Rattle.std.specs.List.{list_any}
use Rattle.mpy_tree.specs.Options.{◌>>=◌}
use Rattle.mpy_tree.specs.declared.levels.Level.TheVariants as level
use Rattle.mpy_lexer.specs.declared.token.Token.{Token}
use Rattle.mpy_expressions.specs.Reading.{or_else, reading}
use Rattle.mpy_expressions.specs.declared.words.Word.TheVariants as word
use Rattle.mpy_expressions.specs.declared.terminals.Terminal.{Terminal}
use Rattle.mpy_expressions.specs.declared.terminals.Terminal.TheVariants as terminal
use Rattle.choice_tree.specs.declared.forms.Mark.{Mark}
use Rattle.choice_tree.specs.declared.forms.Mark.TheVariants as mark
use Rattle.choice_tree.specs.declared.rules.Meta.{Meta}
use Rattle.choice_tree.specs.declared.rules.Place.{Place}
use Rattle.choice_tree.specs.declared.rules.Place.TheVariants as place
use Rattle.choice_tree.specs.Matching.{letter_v}
use Rattle.choice_tree.specs.Sides.{sides}
use Rattle.choice_tree.specs.Templates.{Template}
use Rattle.eml_sides.specs.RuleTerminals.{rule_terminals}
use Rattle.eml_sides.specs.Singles.{is_right_alone}

-- a place, and the terminals behind what names it
abbrev pub Front : Type 0
Front = Place × List (Terminal Mark)

abbrev pub named : Meta → Place → List (Terminal Mark) → Option Front
named m p ts = if m.letter == letter_v then Some (p, ts) else None

-- the place that the front of a side names, if it names one
abbrev pub placed : List (Terminal Mark) → Option Front
placed (terminal.Word word.Return ∷ ts) = Some (place.Return, ts)
placed (terminal.Word word.If ∷ ts) = Some (place.If, ts)
placed (terminal.Word word.While ∷ ts) = Some (place.While, ts)
placed (terminal.Word word.For ∷ terminal.Special (mark.Meta m) ∷ terminal.Word word.In ∷ ts) =
    named m (place.For m) ts
placed (terminal.Special (mark.Meta m) ∷ terminal.Word word.Assign ∷ ts) =
    named m (place.Assign m) ts
placed _ = None

abbrev pub front : List (Terminal Mark) → Front
front ts = or_else (placed ts) (place.Anywhere, ts)

abbrev pub is_none : List (Terminal Mark) → Bool
is_none [] = true
is_none (t ∷ ts) = false

abbrev pub is_colon : List (Terminal Mark) → Bool
is_colon (terminal.Word word.Colon ∷ []) = true
is_colon _ = false

-- what stands behind the expression ends the side
abbrev pub is_ended : Place → List (Terminal Mark) → Bool
is_ended place.If ts = is_colon ts
is_ended place.While ts = is_colon ts
is_ended (place.For m) ts = is_colon ts
is_ended _ ts = is_none ts

abbrev pub ended : Place → Template × List (Terminal Mark) → Option (Place × Template)
ended p e = if is_ended p e.1 then Some (p, e.0) else None

abbrev pub expression_of : Front → Option (Place × Template)
expression_of f = reading sides level.Conditional f.1 >>= ended f.0

unfoldable pub side_of : List (Terminal Mark) → Option (Place × Template)
side_of ts = expression_of (front ts)

-- sets and `?` stand in right sides alone
unfoldable pub left_of : List Token → Option (Place × Template)
left_of ts = if list_any is_right_alone ts then None else side_of (rule_terminals ts)

unfoldable pub right_of : List Token → Option (Place × Template)
right_of ts = side_of (rule_terminals ts)
