-- What the grammar sees of the tokens of a side. `?` and an unprimed $a, $v or $n behind it are one
-- terminal, and so is a set of operators with its braces. No expression begins as such a set does.
use Rattle.std.specs.Prelude.{ℕ, zero, suc, if◌then◌else◌, codes, List, [], ◌∷◌}
use Rattle.std.specs.Prelude.{length, Option, Some, None}
use Rattle.mpy_lexer.specs.declared.token.Token.{Token}
use Rattle.mpy_expressions.specs.declared.words.Word.TheVariants as word
use Rattle.mpy_expressions.specs.declared.terminals.Terminal.{Terminal}
use Rattle.mpy_expressions.specs.declared.terminals.Terminal.TheVariants as terminal
use Rattle.choice_tree.specs.declared.forms.Mark.{Mark}
use Rattle.choice_tree.specs.declared.forms.Mark.TheVariants as mark
use Rattle.eml_sides.specs.Singles.{is_mark, single}
use Rattle.eml_sides.specs.OperatorSets.{ariths_at, comparisons_at}

-- what is seen at the front of tokens, and the tokens behind it
abbrev pub Sight : Type 0
Sight = Terminal Mark × List Token

-- behind a `?`, by what stands there: a local, or a `?` that spells nothing
abbrev pub local_by : Terminal Mark → Token → List Token → Sight
local_by (terminal.Special (mark.Meta m)) t ts =
    if m.primed then (terminal.Other, t ∷ ts) else (terminal.Special (mark.Local m), ts)
local_by _ t ts = (terminal.Other, t ∷ ts)

abbrev pub local_at : List Token → Sight
local_at [] = (terminal.Other, [])
local_at (t ∷ ts) = local_by (single t) t ts

-- behind a brace: a set of operators, or the brace is a word
abbrev pub comparison_set : List Token → Sight
comparison_set ts = elim (comparisons_at ts) [
  | Some c ↦ (terminal.Comparator (mark.Comparisons c.0), c.1)
  | None ↦ (terminal.Word word.LeftBrace, ts)
]

abbrev pub operator_set : List Token → Sight
operator_set ts = elim (ariths_at ts) [
  | Some a ↦ (terminal.Operator (mark.Ariths a.0), a.1)
  | None ↦ comparison_set ts
]

abbrev pub perhaps_a_set : Terminal Mark → List Token → Sight
perhaps_a_set (terminal.Word word.LeftBrace) ts = operator_set ts
perhaps_a_set seen ts = (seen, ts)

abbrev pub terminal_at : List Token → Option Sight
terminal_at [] = None
terminal_at (t ∷ ts) =
    Some (if is_mark (codes "?") t then local_at ts else perhaps_a_set (single t) ts)

-- the terminals, so many at most
abbrev pub terminals_within : ℕ → List Token → List (Terminal Mark)
terminals_within zero ts = []
terminals_within (suc n) ts = elim (terminal_at ts) [
  | Some seen ↦ seen.0 ∷ terminals_within n seen.1
  | None ↦ []
]

unfoldable pub rule_terminals : List Token → List (Terminal Mark)
rule_terminals ts = terminals_within (length ts) ts
