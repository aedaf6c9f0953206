-- The causes for which a file of rules is refused.
use Rattle.std.proofs.Common.{◌≡◌, ℕ, Bool, true, false, List, [], ◌∷◌, ◌++◌, Option, Some, None}
use Rattle.std.proofs.Common.{Err, refl, sym, ap, ◌∙◌, if◌then◌else◌}
use Rattle.std.specs.List.{list_any}
use Rattle.mpy_tree.specs.declared.refusal.Cause.{Cause}
use Rattle.mpy_tree.specs.declared.refusal.Cause.TheVariants as cause
use Rattle.mpy_lexer.specs.declared.forms.Form.TheVariants.{Rules as of_rules}
use Rattle.mpy_lexer.specs.declared.line.LexCause.{LexCause}
use Rattle.mpy_lexer.specs.declared.line.LexCause.TheVariants as lex_cause
use Rattle.mpy_lexer.specs.declared.line.LexError.TheVariants as lex_error
use Rattle.mpy_lexer.specs.Lexing.{lex}
use Rattle.choice_tree.specs.Templates.{Correction}
use Rattle.eml_faults.specs.declared.meanings.MeaningFault.{MeaningFault}
use Rattle.eml_faults.specs.Sides.{nodes}
use Rattle.eml_faults.specs.MeaningFaults.{fault_or, is_misprimed, is_miscall, is_twice, is_unbound}
use Rattle.eml_faults.specs.MeaningFaults.{is_unknown_call, meaning_cause, meaning_fault_behind}
use Rattle.eml_reader.specs.RuleFiles.{IsRefused, by_lexing, by_limit, by_meaning, by_syntax}
use Rattle.eml_reader.specs.RuleFiles.{lexing_cause}
use Rattle.eml_reader.specs.FileLaws.{is_cause_of_rules}
use Rattle.eml_reader.proofs.LexedFaults.{lexed_fault}

as_one : (c d : Cause) → is_cause_of_rules c ≡ true → c ≡ d → is_cause_of_rules d ≡ true
as_one c d h e = ap is_cause_of_rules (sym e) ∙ h

of_tests : (a b d e f : Bool) (c : Cause)
    → (if a then Some cause.RuleTwice else if b then Some cause.RuleMeta else if d then Some
    cause.RulePrime else if e then Some cause.Name else if f then Some cause.Arity else None)
    ≡ Some c → is_cause_of_rules c ≡ true
of_tests true b d e f c h = as_one cause.RuleTwice c refl cc
of_tests false true d e f c h = as_one cause.RuleMeta c refl cc
of_tests false false true e f c h = as_one cause.RulePrime c refl cc
of_tests false false false true f c h = as_one cause.Name c refl cc
of_tests false false false false true c h = as_one cause.Arity c refl cc
of_tests false false false false false c h = cc

of_meaning : (before : List Correction) (r : Correction) (c : Cause)
    → meaning_cause before r ≡ Some c → is_cause_of_rules c ≡ true
of_meaning before r c h =
    of_tests (is_twice before r) (is_unbound r) (is_misprimed r)
    (list_any is_unknown_call (nodes r.right)) (list_any is_miscall (nodes r.right)) c h

first_or : (o : Option Cause) (line : ℕ) (rest : Option MeaningFault) (f : MeaningFault)
    → ((c : Cause) → o ≡ Some c → is_cause_of_rules c ≡ true)
    → (rest ≡ Some f → is_cause_of_rules f.cause ≡ true) → fault_or o line rest ≡ Some f
    → is_cause_of_rules f.cause ≡ true
first_or None line rest f one later h = later h
first_or (Some c) line rest f one later h =
    let first : MeaningFault = record { cause = c; line = line } in
    let same : first ≡ f = cc in
    as_one c f.cause (one c refl) (ap (λ g. g.cause) same)

of_rules_behind : (before rs : List Correction) (f : MeaningFault)
    → meaning_fault_behind before rs ≡ Some f → is_cause_of_rules f.cause ≡ true
of_rules_behind before [] f h = cc
of_rules_behind before (r ∷ rs) f h =
    first_or (meaning_cause before r) r.line (meaning_fault_behind (before ++ r ∷ []) rs) f
    (of_meaning before r) (of_rules_behind (before ++ r ∷ []) rs f) h

of_lexing : (bytes : List ℕ) (c : LexCause) (line : ℕ)
    → lex of_rules bytes ≡ Err (lex_error.Fault c line)
    → is_cause_of_rules (lexing_cause c) ≡ true
of_lexing bytes lex_cause.Byte line h = refl
of_lexing bytes lex_cause.Tab line h =
    absurd (lexed_fault bytes (lex_error.Fault lex_cause.Tab line) h)
of_lexing bytes lex_cause.Token line h = refl
of_lexing bytes lex_cause.LongLine line h = refl

pub one_of_nine : (bytes : List ℕ) (c : Cause) (line : ℕ) → IsRefused bytes c line
    → is_cause_of_rules c ≡ true
one_of_nine bytes _ _ (by_lexing c line h) = of_lexing bytes c line h
one_of_nine bytes _ _ (by_syntax ls line h s) = refl
one_of_nine bytes _ _ (by_limit rs line s h) = refl
one_of_nine bytes _ _ (by_meaning rs f s n h) = of_rules_behind [] rs f h
