-- Parentheses stand exactly where they are needed: the level by which the printer decides is the
-- highest that spells an expression without parentheses round it.
use Rattle.std.specs.Prelude.{◌≡◌, ◌≤◌, ◌⊎◌, List, [], ◌∷◌, ◌++◌}
use Rattle.mpy_tree.specs.Syntax.{Term}
use Rattle.mpy_tree.specs.declared.levels.Level.{Level}
use Rattle.mpy_tree.specs.declared.levels.Level.TheVariants as level
use Rattle.mpy_tree.specs.Levels.{rank}
use Rattle.mpy_tree.specs.Printing.{level_of}
use Rattle.mpy_expressions.specs.declared.words.Word.TheVariants as word
use Rattle.mpy_expressions.specs.declared.terminals.Terminal.{Terminal}
use Rattle.mpy_expressions.specs.declared.terminals.Terminal.TheVariants as terminal
use Rattle.mpy_expressions.specs.Programs.{programs}
use Rattle.mpy_expressions.specs.Grammar.{Spells}

-- terminals in parentheses that spell the expression inside of them
abbrev pub IsParenthesized : List (Terminal Unit) → Term → Type 0
IsParenthesized xs e =
    (ys : List (Terminal Unit))
    × ((xs ≡ terminal.Word word.LeftParen ∷ ys ++ terminal.Word word.RightParen ∷ [])
    × Spells programs level.Conditional ys e)

-- above its own level an expression is spelled in parentheses alone
abbrev pub ParenthesizedAboveItsLevel : Type 0
ParenthesizedAboveItsLevel =
    (k : Level) (xs : List (Terminal Unit)) (e : Term) → Spells programs k xs e
    → (rank k ≤ rank (level_of e)) ⊎ IsParenthesized xs e
