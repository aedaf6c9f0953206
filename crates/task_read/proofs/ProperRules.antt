-- The rules that a text spells are proper.
use Rattle.std.proofs.Common.{ℕ, List, ◌∷◌, ◌++◌, All, subst}
use Rattle.std.proofs.lemmas.List.Elements.{All-cons, All-head, All-nil, All-tail}
use Rattle.mpy_lexer.specs.declared.forms.Form.TheVariants.{Rules as of_rules}
use Rattle.mpy_lexer.specs.declared.line.Line.{Line}
use Rattle.mpy_lexer.specs.Spans.{IsIn, IsLineOf}
use Rattle.mpy_lexer.proofs.TokenSpans.{spans}
use Rattle.choice_tree.specs.Templates.{Correction}
use Rattle.choice_tree.proofs.Lists.{Each}
use Rattle.eml_reader.specs.RuleFiles.{SpellsFile}
use Rattle.eml_reader.specs.RuleLines.{SpellRules, SpellsRule, a_rule, a_rule_with_message}
use Rattle.eml_reader.specs.RuleLines.{no_lines, with_message}
use Rattle.input_space.proofs.Elements.{all_each}
use Rattle.input_space.specs.ProperRules.{AreProperRules, IsProperRule}
use Rattle.task_read.proofs.ProperSides.{halves, spelled_proper}
use Rattle.task_read.proofs.ProperTerminals.{proper_terminals}

module _ (source : List ℕ) where
  rule_proper : (l : Line) (r : Correction) → SpellsRule l r → IsLineOf of_rules source l
      → IsProperRule r
  rule_proper l r s h =
      let P = IsIn of_rules source in
      let all = all_each P l.tokens h.tokens in
      let cut =
      halves P s.head (s.left ++ s.arrow ∷ s.right) (subst (Each P) s.whole all) in
      let both = halves P s.left (s.arrow ∷ s.right) cut.1 in
      record {
        left = spelled_proper s.spells_left.spelled (proper_terminals source s.left both.0);
        right = spelled_proper s.spells_right (proper_terminals source s.right both.1.1);
      }

  rules_proper : {ls : List Line} {rs : List Correction} → SpellRules ls rs
      → All (IsLineOf of_rules source) ls → AreProperRules rs
  rules_proper no_lines h = All-nil IsProperRule
  rules_proper (a_rule l ls r rs s rest) h =
      All-cons IsProperRule r rs
      (rule_proper l r s (All-head (IsLineOf of_rules source) l ls h))
      (rules_proper rest (All-tail (IsLineOf of_rules source) l ls h))
  rules_proper (a_rule_with_message l m ls r text rs s t rest) h =
      let own = rule_proper l r s (All-head (IsLineOf of_rules source) l (m ∷ ls) h) in
      let later = All-tail (IsLineOf of_rules source) l (m ∷ ls) h in
      All-cons IsProperRule (with_message r text) rs
      (record { left = own.left; right = own.right })
      (rules_proper rest (All-tail (IsLineOf of_rules source) m ls later))

pub spelled_rules_proper : (bytes : List ℕ) (rs : List Correction) → SpellsFile bytes rs
    → AreProperRules rs
spelled_rules_proper bytes rs file =
    rules_proper bytes file.spelled (spans of_rules bytes file.lines file.lexed)
