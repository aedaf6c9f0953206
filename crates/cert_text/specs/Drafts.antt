-- What the lines that were read have told, and what each next line adds.
use Rattle.std.specs.Prelude.{◌≡◌, ◌≢◌, ◌⊎◌, ℕ, suc, ◌+◌, ◌≤◌, true, List, [], ◌∷◌, ◌++◌, length}
use Rattle.std.specs.List.{list_all}
use Rattle.choice_tree.specs.declared.selection.Choice.{Choice}
use Rattle.clause_base.specs.declared.clause.Clause.{Clause}
use Rattle.clause_base.specs.declared.log.Step.{Step}
use Rattle.step_lines.specs.Limits.{greatest_number, is_literal}
use Rattle.step_lines.specs.Steps.{SpellsStep}
use Rattle.input_space.specs.declared.case.Case.{Case}
use Rattle.input_space.specs.declared.session.Query.{Query}
use Rattle.input_space.specs.declared.session.Session.{Session}
use Rattle.cert_text.specs.declared.cert.Cert.{Cert}
use Rattle.cert_text.specs.declared.cert.Claim.{Claim}
use Rattle.cert_text.specs.declared.cert.Claim.TheVariants as claim
use Rattle.cert_text.specs.declared.draft.Draft.{Draft}
use Rattle.cert_text.specs.declared.draft.Draft.TheVariants as draft
use Rattle.cert_text.specs.Limits.{KeepsChoices, KeepsQuery, greatest_budget, greatest_cost}
use Rattle.cert_text.specs.LineForms.{SpellsCaseLine, claim_line, clause_line, first_line}
use Rattle.cert_text.specs.LineForms.{last_line, query_line, selection_line, vars_line}

-- a claim within its limit
abbrev pub IsClaim : Claim → Type 0
IsClaim (claim.Cost n) = n ≤ greatest_cost
IsClaim claim.Nothing = Unit {0}
IsClaim (claim.Spent n) = (1 ≤ n) × (n ≤ greatest_budget)

pub record SpellsClaim (line : List ℕ) (c : Claim) : Type 0 where
  pub written : line ≡ claim_line c
  pub kept : IsClaim c

pub record SpellsSelection (line : List ℕ) (choices : List Choice) : Type 0 where
  pub written : line ≡ selection_line choices
  pub kept : KeepsChoices choices

pub record SpellsQuery (count : ℕ) (line : List ℕ) (q : Query) : Type 0 where
  pub written : line ≡ query_line q
  pub kept : KeepsQuery count q

pub record SpellsVars (line : List ℕ) (vars : ℕ) : Type 0 where
  pub written : line ≡ vars_line vars
  pub kept : vars ≤ greatest_number

pub record SpellsClause (vars : ℕ) (line : List ℕ) (c : Clause) : Type 0 where
  pub written : line ≡ clause_line c
  pub kept : list_all (is_literal vars) c.lits ≡ true

-- a certificate without cases and sessions
abbrev pub bare : Claim → List Choice → Cert
bare claimed choices = record {
  claim = claimed;
  selection = choices;
  cases = [];
  sessions = [];
}

abbrev pub with_case : Cert → Case → Cert
with_case c added = record c { cases = c.cases ++ added ∷ [] }

abbrev pub with_session : Cert → Session → Cert
with_session c s = record c { sessions = c.sessions ++ s ∷ [] }

-- a claim is followed by its selection, where it is a cost
abbrev pub after_claim : Claim → Draft
after_claim (claim.Cost n) = draft.Claimed n
after_claim claim.Nothing = draft.Cases (bare claim.Nothing [])
after_claim (claim.Spent n) = draft.Cases (bare (claim.Spent n) [])

pub record AddsClaim (line : List ℕ) (next : Draft) : Type 0 where
  pub claimed : Claim
  pub spelled : SpellsClaim line claimed
  pub gives : next ≡ after_claim claimed

pub record AddsSelection (cost : ℕ) (line : List ℕ) (next : Draft) : Type 0 where
  pub choices : List Choice
  pub spelled : SpellsSelection line choices
  pub gives : next ≡ draft.Cases (bare (claim.Cost cost) choices)

pub record AddsCase (c : Cert) (line : List ℕ) (next : Draft) : Type 0 where
  pub added : Case
  pub spelled : SpellsCaseLine line added
  pub gives : next ≡ draft.Cases (with_case c added)

pub record AddsQuery (c : Cert) (line : List ℕ) (next : Draft) : Type 0 where
  pub asked : Query
  pub spelled : SpellsQuery (length c.cases) line asked
  pub gives : next ≡ draft.Asked c asked

pub record AddsEnd (c : Cert) (line : List ℕ) (next : Draft) : Type 0 where
  pub written : line ≡ last_line
  pub gives : next ≡ draft.Whole c

-- what comes behind whole sessions
abbrev pub GoesOn : Cert → List ℕ → Draft → Type 0
GoesOn c line next = AddsQuery c line next ⊎ AddsEnd c line next

-- a session of which these parts are known
pub record IsSession (s : Session) (q : Query) (vars : ℕ) (clauses : List Clause)
    (steps : List Step) : Type 0 where
  pub asked : s.query ≡ q
  pub number : s.formula.vars ≡ vars
  pub clauses_are : s.formula.clauses ≡ clauses
  pub steps_are : s.log.steps ≡ steps

pub record AddsVars (c : Cert) (q : Query) (line : List ℕ) (next : Draft) : Type 0 where
  pub vars : ℕ
  pub spelled : SpellsVars line vars
  pub session : Session
  pub parts : IsSession session q vars [] []
  pub gives : next ≡ draft.Inside c session

-- the formula's clauses come before those of the log
pub record AddsClause (c : Cert) (s : Session) (line : List ℕ) (next : Draft) : Type 0 where
  pub early : s.log.steps ≡ []
  pub clause : Clause
  pub spelled : SpellsClause s.formula.vars line clause
  pub session : Session
  pub parts : IsSession session s.query s.formula.vars (s.formula.clauses ++ clause ∷ []) []
  pub gives : next ≡ draft.Inside c session

-- the number of the next clause
abbrev pub next_number : Session → ℕ
next_number s = suc (length s.formula.clauses + length s.log.steps)

pub record AddsStep (c : Cert) (s : Session) (line : List ℕ) (next : Draft) : Type 0 where
  pub some : s.formula.clauses ≢ []
  pub step : Step
  pub spelled : SpellsStep s.formula.vars (next_number s) line step
  pub session : Session
  pub parts : IsSession session s.query s.formula.vars s.formula.clauses
      (s.log.steps ++ step ∷ [])
  pub gives : next ≡ draft.Inside c session

-- the session is whole, and something else comes
pub record Closes (c : Cert) (s : Session) (line : List ℕ) (next : Draft) : Type 0 where
  pub some : s.formula.clauses ≢ []
  pub goes_on : GoesOn (with_session c s) line next

-- a line makes the next draft of a draft
abbrev pub Next : Draft → List ℕ → Draft → Type 0
Next draft.Start line next = (line ≡ first_line) × (next ≡ draft.Opened)
Next draft.Opened line next = AddsClaim line next
Next (draft.Claimed cost) line next = AddsSelection cost line next
Next (draft.Cases c) line next = AddsCase c line next ⊎ GoesOn c line next
Next (draft.Asked c q) line next = AddsVars c q line next
Next (draft.Inside c s) line next =
    AddsClause c s line next ⊎ (AddsStep c s line next ⊎ Closes c s line next)
Next (draft.Whole c) line next = ⊥
