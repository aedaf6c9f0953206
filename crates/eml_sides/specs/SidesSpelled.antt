-- Which terminals and tokens spell a side of a rule.
use Rattle.std.specs.Prelude.{◌≡◌, false, List, [], ◌∷◌, ◌++◌}
use Rattle.std.specs.List.{list_any}
use Rattle.mpy_tree.specs.declared.levels.Level.TheVariants as level
use Rattle.mpy_lexer.specs.declared.token.Token.{Token}
use Rattle.mpy_expressions.specs.Grammar.{Spells}
use Rattle.mpy_expressions.specs.declared.words.Word.TheVariants as word
use Rattle.mpy_expressions.specs.declared.terminals.Terminal.{Terminal}
use Rattle.mpy_expressions.specs.declared.terminals.Terminal.TheVariants as terminal
use Rattle.choice_tree.specs.declared.forms.Mark.{Mark}
use Rattle.choice_tree.specs.declared.forms.Mark.TheVariants as mark
use Rattle.choice_tree.specs.declared.rules.Meta.{Meta}
use Rattle.choice_tree.specs.declared.rules.Place.{Place}
use Rattle.choice_tree.specs.declared.rules.Place.TheVariants as place
use Rattle.choice_tree.specs.Matching.{letter_v}
use Rattle.choice_tree.specs.Sides.{sides}
use Rattle.choice_tree.specs.Templates.{Template}
use Rattle.eml_sides.specs.RuleTerminals.{rule_terminals}
use Rattle.eml_sides.specs.Singles.{is_right_alone}

-- a metavariable for names, $v
abbrev pub IsForNames : Meta → Type 0
IsForNames m = m.letter ≡ letter_v

pub data SpellsSide : List (Terminal Mark) → Place → Template → Type 0 where
  -- e
  anywhere : {es : List (Terminal Mark)} {e : Template}
      → Spells sides level.Conditional es e
      → SpellsSide es place.Anywhere e
  -- return e
  returned : {es : List (Terminal Mark)} {e : Template}
      → Spells sides level.Conditional es e
      → SpellsSide (terminal.Word word.Return ∷ es) place.Return e
  -- $v = e
  assigned : (m : Meta) {es : List (Terminal Mark)} {e : Template}
      → IsForNames m
      → Spells sides level.Conditional es e
      → SpellsSide (terminal.Special (mark.Meta m) ∷ terminal.Word word.Assign ∷ es)
      (place.Assign m) e
  -- if e:
  tested : {es : List (Terminal Mark)} {e : Template}
      → Spells sides level.Conditional es e
      → SpellsSide (terminal.Word word.If ∷ es ++ terminal.Word word.Colon ∷ []) place.If e
  -- while e:
  repeated : {es : List (Terminal Mark)} {e : Template}
      → Spells sides level.Conditional es e
      → SpellsSide (terminal.Word word.While ∷ es ++ terminal.Word word.Colon ∷ []) place.While e
  -- for $v in e:
  each : (m : Meta) {es : List (Terminal Mark)} {e : Template}
      → IsForNames m
      → Spells sides level.Conditional es e
      → SpellsSide
      (terminal.Word word.For ∷ terminal.Special (mark.Meta m) ∷ terminal.Word word.In ∷ es
      ++ terminal.Word word.Colon ∷ [])
      (place.For m) e

-- the tokens are a left side: no set and no `?` stands in it
pub record SpellsLeft (tokens : List Token) (p : Place) (t : Template) : Type 0 where
  pub none_of_right : list_any is_right_alone tokens ≡ false
  pub spelled : SpellsSide (rule_terminals tokens) p t

-- the tokens are a right side
abbrev pub SpellsRight : List Token → Place → Template → Type 0
SpellsRight tokens p t = SpellsSide (rule_terminals tokens) p t
