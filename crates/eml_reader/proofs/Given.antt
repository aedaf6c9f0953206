-- What is answered for a file.
use Rattle.std.proofs.Common.{◌≡◌, ℕ, List, Result, Ok, Err, IfOk, IfErr, subst, sym}
use Rattle.mpy_tree.specs.declared.refusal.Cause.{Cause}
use Rattle.mpy_lexer.specs.declared.forms.Form.TheVariants.{Rules as of_rules}
use Rattle.mpy_lexer.specs.declared.line.Line.{Line}
use Rattle.mpy_lexer.specs.Lexing.{lex}
use Rattle.choice_tree.specs.declared.rules.Rules.{Rules}
use Rattle.choice_tree.specs.Templates.{Correction}
use Rattle.choice_tree.specs.RuleViews.{corrections_of}
use Rattle.eml_reader.specs.declared.rule_error.RuleError.{RuleError}
use Rattle.eml_reader.specs.declared.rule_error.RuleError.TheVariants as rule_error
use Rattle.eml_reader.specs.RuleFiles.{IsAnswered, IsGiven, IsRefusal, IsRefused, IsRules}
use Rattle.eml_reader.specs.RuleFiles.{SpellsFile, by_syntax}
use Rattle.eml_reader.specs.RuleReading.{rules_of}
use Rattle.eml_reader.specs.ReadingViews.{IsMisspelled}
use Rattle.eml_reader.proofs.LineLaws.{fault_found, lines_spelled}
use Rattle.eml_reader.proofs.Judged.{not_both, one_reading, one_refusal}

pub given_by : (bytes : List ℕ) (o : Result Rules RuleError)
    → IfOk o (λ p. IsRules bytes (corrections_of p)) → IfErr o (IsAnswered bytes)
    → (rs : List Correction) → IsRules bytes rs → IsGiven rs o
given_by bytes (Ok p) r e rs h = one_reading bytes (corrections_of p) rs r h
given_by bytes (Err (rule_error.Fault c line)) r e rs h = not_both bytes rs c line h e
given_by bytes (Err rule_error.NoMemory) r e rs h = tt

pub refused_by : (bytes : List ℕ) (o : Result Rules RuleError)
    → IfOk o (λ p. IsRules bytes (corrections_of p)) → IfErr o (IsAnswered bytes)
    → (c : Cause) (line : ℕ) → IsRefused bytes c line → IsRefusal c line o
refused_by bytes (Ok p) r e c line h = not_both bytes (corrections_of p) c line r h
refused_by bytes (Err (rule_error.Fault d m)) r e c line h = one_refusal bytes d c m line e h
refused_by bytes (Err rule_error.NoMemory) r e c line h = tt

pub file_read : {V : Type 0} (rules : V → List Correction) (bytes : List ℕ) (ls : List Line)
    (o : Result V RuleError) → lex of_rules bytes ≡ Ok ls
    → IfOk o (λ v. rules_of ls ≡ Ok (rules v)) → IfOk o (λ v. SpellsFile bytes (rules v))
file_read rules bytes ls (Ok v) l h =
    record { lines = ls; lexed = l; spelled = lines_spelled ls (rules v) h }
file_read rules bytes ls (Err e) l h = tt

pub file_refused : {V : Type 0} (bytes : List ℕ) (ls : List Line) (o : Result V RuleError)
    → lex of_rules bytes ≡ Ok ls → IfErr o (IsMisspelled ls) → IfErr o (IsAnswered bytes)
file_refused bytes ls (Ok v) l h = tt
file_refused bytes ls (Err (rule_error.Fault c line)) l h =
    subst (λ d. IsRefused bytes d line) (sym h.0)
    (by_syntax ls line l (fault_found ls line h.1))
file_refused bytes ls (Err rule_error.NoMemory) l h = tt
