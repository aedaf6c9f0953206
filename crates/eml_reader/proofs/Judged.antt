-- What a file spells, and for what it is refused, as one answer.
use Rattle.std.proofs.Common.{◌≡◌, inl, inr, ℕ, List, [], Option, Some, None, Result, Ok, Err, refl}
use Rattle.std.proofs.Common.{sym, ap, ◌∙◌}
use Rattle.mpy_tree.specs.declared.refusal.Cause.{Cause}
use Rattle.mpy_tree.specs.declared.refusal.Cause.TheVariants as cause
use Rattle.mpy_lexer.specs.declared.forms.Form.TheVariants.{Rules as of_rules}
use Rattle.mpy_lexer.specs.declared.line.Line.{Line}
use Rattle.mpy_lexer.specs.declared.line.LexError.{LexError}
use Rattle.mpy_lexer.specs.declared.line.LexError.TheVariants as lex_error
use Rattle.mpy_lexer.specs.Lexing.{lex}
use Rattle.choice_tree.specs.Templates.{Correction}
use Rattle.eml_faults.specs.declared.meanings.MeaningFault.{MeaningFault}
use Rattle.eml_faults.specs.LimitFaults.{limit_fault}
use Rattle.eml_faults.specs.MeaningFaults.{meaning_fault}
use Rattle.eml_reader.specs.RuleFiles.{IsRefused, IsRules, SpellsFile, by_lexing, by_limit}
use Rattle.eml_reader.specs.RuleFiles.{by_meaning, by_syntax, lexing_cause}
use Rattle.eml_reader.specs.FileLaws.{IsJudged}
use Rattle.eml_reader.specs.RuleReading.{rules_of}
use Rattle.eml_reader.proofs.LexedFaults.{lexed_fault}
use Rattle.eml_reader.proofs.LineLaws.{fault_found, fault_read, lines_read, lines_spelled}

-- a cause and its line
pub record Refused : Type 0 where
  pub cause : Cause
  pub line : ℕ

abbrev refused : Cause → ℕ → Refused
refused c line = record { cause = c; line = line }

abbrev Judgement : Type 0
Judgement = Result (List Correction) Refused

abbrev by_meanings : List Correction → Option MeaningFault → Judgement
by_meanings rs None = Ok rs
by_meanings rs (Some f) = Err (refused f.cause f.line)

abbrev by_limits : List Correction → Option ℕ → Judgement
by_limits rs None = by_meanings rs (meaning_fault rs)
by_limits rs (Some line) = Err (refused cause.Limit line)

abbrev by_rules : Result (List Correction) ℕ → Judgement
by_rules (Ok rs) = by_limits rs (limit_fault rs)
by_rules (Err line) = Err (refused cause.Syntax line)

-- a text without rules, in place of an answer that no text has
abbrev by_lines : Result (List Line) LexError → Judgement
by_lines (Ok ls) = by_rules (rules_of ls)
by_lines (Err (lex_error.Fault c line)) = Err (refused (lexing_cause c) line)
by_lines (Err lex_error.NoMemory) = Ok []

unfoldable judgement : List ℕ → Judgement
judgement bytes = by_lines (lex of_rules bytes)

file_judged : (bytes : List ℕ) (rs : List Correction) → SpellsFile bytes rs
    → judgement bytes ≡ by_limits rs (limit_fault rs)
unfolding judgement
file_judged bytes rs f =
    ap by_lines f.lexed ∙ ap by_rules (lines_read f.lines rs f.spelled)

rules_judged : (bytes : List ℕ) (rs : List Correction) → IsRules bytes rs
    → judgement bytes ≡ Ok rs
rules_judged bytes rs r =
    file_judged bytes rs r.file
    ∙ ap (by_limits rs) r.no_limit_fault
    ∙ ap (by_meanings rs) r.no_meaning_fault

refusal_judged : (bytes : List ℕ) (c : Cause) (line : ℕ) → IsRefused bytes c line
    → judgement bytes ≡ Err (refused c line)
unfolding judgement
refusal_judged bytes _ _ (by_lexing c line h) = ap by_lines h
refusal_judged bytes _ _ (by_syntax ls line h s) =
    ap by_lines h ∙ ap by_rules (fault_read ls line s)
refusal_judged bytes _ _ (by_limit rs line f h) =
    file_judged bytes rs f ∙ ap (by_limits rs) h
refusal_judged bytes _ _ (by_meaning rs f s n h) =
    file_judged bytes rs s ∙ ap (by_limits rs) n ∙ ap (by_meanings rs) h

pub one_reading : (bytes : List ℕ) (rs qs : List Correction) → IsRules bytes rs
    → IsRules bytes qs → rs ≡ qs
one_reading bytes rs qs r q =
    let a : Judgement = Ok rs in
    let b : Judgement = Ok qs in
    let same : a ≡ b = sym (rules_judged bytes rs r) ∙ rules_judged bytes qs q in
    cc

pub not_both : (bytes : List ℕ) (rs : List Correction) (c : Cause) (line : ℕ) → IsRules bytes rs
    → IsRefused bytes c line → ⊥
not_both bytes rs c line r f =
    let a : Judgement = Ok rs in
    let e : Judgement = Err (refused c line) in
    let same : a ≡ e =
    sym (rules_judged bytes rs r) ∙ refusal_judged bytes c line f in
    cc

pub one_refusal : (bytes : List ℕ) (c d : Cause) (m n : ℕ) → IsRefused bytes c m
    → IsRefused bytes d n → (c ≡ d) × (m ≡ n)
one_refusal bytes c d m n a b =
    let e : Judgement = Err (refused c m) in
    let f : Judgement = Err (refused d n) in
    let whole : e ≡ f =
    sym (refusal_judged bytes c m a) ∙ refusal_judged bytes d n b in
    let same : refused c m ≡ refused d n = cc in
    (ap (λ r. r.cause) same, ap (λ r. r.line) same)

judged_meaning : (bytes : List ℕ) (rs : List Correction) → SpellsFile bytes rs
    → limit_fault rs ≡ None → (o : Option MeaningFault) → meaning_fault rs ≡ o → IsJudged bytes
judged_meaning bytes rs s n None h =
    inl (rs, record { file = s; no_limit_fault = n; no_meaning_fault = h })
judged_meaning bytes rs s n (Some f) h = inr (f.cause, f.line, by_meaning rs f s n h)

judged_limit : (bytes : List ℕ) (rs : List Correction) → SpellsFile bytes rs
    → (o : Option ℕ) → limit_fault rs ≡ o → IsJudged bytes
judged_limit bytes rs s None h = judged_meaning bytes rs s h (meaning_fault rs) refl
judged_limit bytes rs s (Some line) h = inr (cause.Limit, line, by_limit rs line s h)

judged_rules : (bytes : List ℕ) (ls : List Line) → lex of_rules bytes ≡ Ok ls
    → (o : Result (List Correction) ℕ) → rules_of ls ≡ o → IsJudged bytes
judged_rules bytes ls l (Ok rs) h =
    judged_limit bytes rs (record { lines = ls; lexed = l; spelled = lines_spelled ls rs h })
    (limit_fault rs) refl
judged_rules bytes ls l (Err n) h =
    inr (cause.Syntax, n, by_syntax ls n l (fault_found ls n h))

judged_lines : (bytes : List ℕ) (o : Result (List Line) LexError) → lex of_rules bytes ≡ o
    → IsJudged bytes
judged_lines bytes (Ok ls) h = judged_rules bytes ls h (rules_of ls) refl
judged_lines bytes (Err (lex_error.Fault c line)) h =
    inr (lexing_cause c, line, by_lexing c line h)
judged_lines bytes (Err lex_error.NoMemory) h = absurd (lexed_fault bytes lex_error.NoMemory h)

pub judged : (bytes : List ℕ) → IsJudged bytes
judged bytes = judged_lines bytes (lex of_rules bytes) refl
