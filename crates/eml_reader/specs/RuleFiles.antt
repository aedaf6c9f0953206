-- Which rules a file spells, and which files are refused.
use Rattle.std.specs.Prelude.{◌≡◌, ℕ, List, Some, None, Result, Ok, Err}
use Rattle.mpy_tree.specs.declared.refusal.Cause.{Cause}
use Rattle.mpy_tree.specs.declared.refusal.Cause.TheVariants as cause
use Rattle.mpy_lexer.specs.declared.forms.Form.TheVariants.{Rules as of_rules}
use Rattle.mpy_lexer.specs.declared.line.Line.{Line}
use Rattle.mpy_lexer.specs.declared.line.LexCause.{LexCause}
use Rattle.mpy_lexer.specs.declared.line.LexCause.TheVariants as lex_cause
use Rattle.mpy_lexer.specs.declared.line.LexError.TheVariants as lex_error
use Rattle.mpy_lexer.specs.Lexing.{lex}
use Rattle.choice_tree.specs.declared.rules.Rules.{Rules}
use Rattle.choice_tree.specs.Templates.{Correction}
use Rattle.choice_tree.specs.RuleViews.{corrections_of}
use Rattle.eml_faults.specs.declared.meanings.MeaningFault.{MeaningFault}
use Rattle.eml_faults.specs.LimitFaults.{limit_fault}
use Rattle.eml_faults.specs.MeaningFaults.{meaning_fault}
use Rattle.eml_reader.specs.declared.rule_error.RuleError.{RuleError}
use Rattle.eml_reader.specs.declared.rule_error.RuleError.TheVariants as rule_error
use Rattle.eml_reader.specs.RuleLines.{SpellRules, HasSyntaxFault}

-- the logical lines of the bytes spell the rules
pub record SpellsFile (bytes : List ℕ) (rs : List Correction) : Type 0 where
  pub lines : List Line
  pub lexed : lex of_rules bytes ≡ Ok lines
  pub spelled : SpellRules lines rs

-- the bytes spell the rules, and nothing refuses them
pub record IsRules (bytes : List ℕ) (rs : List Correction) : Type 0 where
  pub file : SpellsFile bytes rs
  pub no_limit_fault : limit_fault rs ≡ None
  pub no_meaning_fault : meaning_fault rs ≡ None

abbrev pub lexing_cause : LexCause → Cause
lexing_cause lex_cause.Byte = cause.Byte
lexing_cause lex_cause.Tab = cause.Tab
lexing_cause lex_cause.Token = cause.Token
lexing_cause lex_cause.LongLine = cause.Limit

-- The first cause for which bytes are refused. Each step goes over the whole file before the next:
-- bytes, tokens and long lines; the form of the lines; limits; what the rules mean.
pub data IsRefused (bytes : List ℕ) : Cause → ℕ → Type 0 where
  by_lexing : (c : LexCause) (line : ℕ)
      → lex of_rules bytes ≡ Err (lex_error.Fault c line)
      → IsRefused bytes (lexing_cause c) line
  by_syntax : (ls : List Line) (line : ℕ)
      → lex of_rules bytes ≡ Ok ls
      → HasSyntaxFault ls line
      → IsRefused bytes cause.Syntax line
  by_limit : (rs : List Correction) (line : ℕ)
      → SpellsFile bytes rs
      → limit_fault rs ≡ Some line
      → IsRefused bytes cause.Limit line
  by_meaning : (rs : List Correction) (f : MeaningFault)
      → SpellsFile bytes rs
      → limit_fault rs ≡ None
      → meaning_fault rs ≡ Some f
      → IsRefused bytes f.cause f.line

-- a cause and line are answered where they are the first; want of memory may be answered for any
-- bytes
abbrev pub IsAnswered : List ℕ → RuleError → Type 0
IsAnswered bytes (rule_error.Fault c line) = IsRefused bytes c line
IsAnswered bytes rule_error.NoMemory = Unit {0}

-- the rules are given, unless memory lacked
abbrev pub IsGiven : List Correction → Result Rules RuleError → Type 0
IsGiven rs (Ok p) = corrections_of p ≡ rs
IsGiven rs (Err (rule_error.Fault c line)) = ⊥
IsGiven rs (Err rule_error.NoMemory) = Unit {0}

-- the bytes are refused so, unless memory lacked
abbrev pub IsRefusal : Cause → ℕ → Result Rules RuleError → Type 0
IsRefusal c line (Ok p) = ⊥
IsRefusal c line (Err (rule_error.Fault d m)) = (d ≡ c) × (m ≡ line)
IsRefusal c line (Err rule_error.NoMemory) = Unit {0}
