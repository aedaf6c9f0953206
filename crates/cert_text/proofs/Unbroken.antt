-- No line of a certificate has a line end.
use Rattle.std.proofs.Common.{◌≡◌, ℕ, suc, ◌≤◌, Bool, true, not, ◌==◌, List, [], ◌∷◌, ◌++◌, length, map, Option, None, Some, IfSome, refl, sym, subst, arith}
use Rattle.std.specs.Fmt.{decimal}
use Rattle.std.specs.List.{AllZip, list_all}
use Rattle.choice_tree.specs.declared.selection.Choice.{Choice}
use Rattle.clause_base.specs.Formulas.{clauses_in_range, in_range}
use Rattle.clause_base.specs.declared.clause.Clause.{Clause}
use Rattle.clause_base.specs.declared.lit.Lit.{Lit}
use Rattle.clause_base.specs.declared.log.Step.{Step}
use Rattle.input_space.specs.declared.case.Case.{Case}
use Rattle.input_space.specs.declared.session.Query.{Query}
use Rattle.input_space.specs.declared.session.Query.TheVariants as query
use Rattle.input_space.specs.declared.session.Session.{Session}
use Rattle.cert_text.specs.declared.cert.Claim.{Claim}
use Rattle.cert_text.specs.declared.cert.Claim.TheVariants as claim
use Rattle.cert_text.specs.Certificates.{front_lines, session_lines, sessions_lines}
use Rattle.step_lines.proofs.Apart.{all_append, both, two}
use Rattle.step_lines.proofs.Decimals.{decimal_lacks, line_end_is_other}
use Rattle.step_lines.proofs.Rows.{texts}
use Rattle.step_lines.proofs.WordKinds.{hint_limits, literal_lacks}
use Rattle.step_lines.specs.Limits.{KeepsStep, KeepsSteps, greatest_number, is_hint, is_literal}
use Rattle.step_lines.specs.LineForms.{list_end, literal_text, literals_text, step_line}
use Rattle.step_lines.specs.Lines.{lacks, spaced}
use Rattle.cert_text.specs.Limits.{KeepsChoices, KeepsClaim, KeepsQuery, KeepsSession, KeepsSessions, greatest_cost, is_choice}
use Rattle.cert_text.specs.LineForms.{SpellsCaseLine, choice_text, choices_text, claim_line, clause_line, most_text, query_line, selection_line, set_apart, vars_line}
use Rattle.cert_text.proofs.CaseBytes.{case_apart}
use Rattle.cert_text.proofs.Completing.{literals_are}
use Rattle.cert_text.proofs.LinesOf.{low_flat}
use Rattle.cert_text.proofs.WordKinds.{choice_lacks}

abbrev no_end : ℕ → Bool
no_end c = not (c == 10)

texts_lack : {A : Type 0} (word : A → List ℕ) (good : A → Bool) → ((x : A) → good x ≡ true → lacks 10 (word x) ≡ true) → (xs : List A) → list_all good xs ≡ true → lacks 10 (texts word xs) ≡ true
texts_lack word good f [] h = refl
texts_lack word good f (x ∷ xs) h =
    let r = both (good x) (list_all good xs) h in
    all_append no_end (word x) (texts word xs) (f x r.0) (texts_lack word good f xs r.1)

choices_lack : (cs : List Choice) → KeepsChoices cs → lacks 10 (choices_text cs) ≡ true
choices_lack cs h = texts_lack choice_text is_choice (λ c g. choice_lacks 10 c line_end_is_other refl g) cs h.each

pub front_unbroken : (k : Claim) (cs : List Choice) → KeepsClaim k cs → list_all (lacks 10) (front_lines k cs) ≡ true
front_unbroken (claim.Cost n) cs h =
    let low : n ≤ greatest_number = omega (arith, h.0) in
    two (lacks 10 (claim_line (claim.Cost n))) (list_all (lacks 10) (selection_line cs ∷ [])) (decimal_lacks 10 n line_end_is_other low)
    (two (lacks 10 (selection_line cs)) true (choices_lack cs h.1) refl)
front_unbroken claim.Nothing cs h = refl
front_unbroken (claim.Spent n) cs h =
    let low : n ≤ greatest_number = omega (arith, h.1) in
    two (lacks 10 (claim_line (claim.Spent n))) true (decimal_lacks 10 n line_end_is_other low) refl

apart_lacks : (text : List ℕ) → lacks 10 text ≡ true → lacks 10 (set_apart text) ≡ true
apart_lacks [] h = refl
apart_lacks (c ∷ text) h = h

case_unbroken : (line : List ℕ) (c : Case) → SpellsCaseLine line c → lacks 10 line ≡ true
case_unbroken line c s = subst (λ t. lacks 10 t ≡ true) (sym s.written) (apart_lacks s.text (case_apart s.text c.values s.spelled))

pub cases_unbroken : (ls : List (List ℕ)) (cs : List Case) → AllZip SpellsCaseLine ls cs → list_all (lacks 10) ls ≡ true
cases_unbroken [] cs h = refl
cases_unbroken (l ∷ ls) [] h = absurd h
cases_unbroken (l ∷ ls) (c ∷ cs) h = two (lacks 10 l) (list_all (lacks 10) ls) (case_unbroken l c h.0) (cases_unbroken ls cs h.1)

most_lacks_end : (m : Option ℕ) → IfSome m (λ k. k ≤ greatest_cost) → lacks 10 (most_text m) ≡ true
most_lacks_end None h = refl
most_lacks_end (Some k) h = let low : k ≤ greatest_cost = h in decimal_lacks 10 k line_end_is_other (omega (arith, low))

query_unbroken : (count : ℕ) (q : Query) → KeepsQuery count q → lacks 10 (query_line q) ≡ true
query_unbroken count query.First h = refl
query_unbroken count (query.Low m c) h =
    subst (λ t. lacks 10 t ≡ true) (sym (low_flat m c))
    (all_append no_end (most_text m) (32 ∷ decimal c) (most_lacks_end m h.0) (decimal_lacks 10 c line_end_is_other h.2))
query_unbroken count (query.Fail cs) h = choices_lack cs h

literals_lack : (vars : ℕ) (ls : List Lit) → list_all (is_literal vars) ls ≡ true → lacks 10 (literals_text ls) ≡ true
literals_lack vars ls h = texts_lack literal_text (is_literal vars) (λ l g. literal_lacks 10 vars l line_end_is_other refl g) ls h

clauses_unbroken : (vars : ℕ) (cs : List Clause) → vars ≤ greatest_number → clauses_in_range vars cs ≡ true → list_all (lacks 10) (map clause_line cs) ≡ true
clauses_unbroken vars [] low h = refl
clauses_unbroken vars (c ∷ cs) low h =
    let r = both (list_all (in_range vars) c.lits) (clauses_in_range vars cs) h in
    let first = all_append no_end (literals_text c.lits) list_end (literals_lack vars c.lits (literals_are vars c.lits low r.0)) refl in
    two (lacks 10 (clause_line c)) (list_all (lacks 10) (map clause_line cs)) first (clauses_unbroken vars cs low r.1)

hints_lack : (number : ℕ) (hs : List ℕ) → list_all (is_hint number) hs ≡ true → lacks 10 (spaced (map decimal hs)) ≡ true
hints_lack number hs h = texts_lack decimal (is_hint number) (λ n g. decimal_lacks 10 n line_end_is_other (hint_limits number n g).low) hs h

step_unbroken : (vars number : ℕ) (s : Step) → KeepsStep vars number s → lacks 10 (step_line s) ≡ true
step_unbroken vars number s h =
    let hints = all_append no_end (spaced (map decimal s.hints)) list_end (hints_lack number s.hints h.hints) refl in
    all_append no_end (literals_text s.clause.lits) (list_end ++ (spaced (map decimal s.hints) ++ list_end)) (literals_lack vars s.clause.lits h.literals) hints

steps_unbroken : (vars number : ℕ) (ts : List Step) → KeepsSteps vars number ts → list_all (lacks 10) (map step_line ts) ≡ true
steps_unbroken vars number [] h = refl
steps_unbroken vars number (t ∷ ts) h = two (lacks 10 (step_line t)) (list_all (lacks 10) (map step_line ts)) (step_unbroken vars number t h.0) (steps_unbroken vars (suc number) ts h.1)

session_unbroken : (count : ℕ) (s : Session) → KeepsSession count s → list_all (lacks 10) (session_lines s) ≡ true
session_unbroken count s h =
    let cs = map clause_line s.formula.clauses in
    let ts = map step_line s.log.steps in
    let behind = all_append (lacks 10) cs ts (clauses_unbroken s.formula.vars s.formula.clauses h.number s.formula.in_range) (steps_unbroken s.formula.vars (suc (length s.formula.clauses)) s.log.steps h.steps) in
    two (lacks 10 (query_line s.query)) (list_all (lacks 10) (vars_line s.formula.vars ∷ (cs ++ ts))) (query_unbroken count s.query h.asked)
    (two (lacks 10 (vars_line s.formula.vars)) (list_all (lacks 10) (cs ++ ts)) (decimal_lacks 10 s.formula.vars line_end_is_other h.number) behind)

pub sessions_unbroken : (count : ℕ) (ss : List Session) → KeepsSessions count ss → list_all (lacks 10) (sessions_lines ss) ≡ true
sessions_unbroken count [] h = refl
sessions_unbroken count (s ∷ ss) h = all_append (lacks 10) (session_lines s) (sessions_lines ss) (session_unbroken count s h.0) (sessions_unbroken count ss h.1)
