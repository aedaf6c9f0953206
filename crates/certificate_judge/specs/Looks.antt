-- What a look at one session gives.
use Rattle.std.specs.Prelude.{◌≡◌, ◌≢◌, ◌<◌, ◌≤◌, ℕ, ◌+◌, List, [], All, length}
use Rattle.clause_base.specs.declared.formula.Formula.{Formula}
use Rattle.clause_base.specs.declared.log.Log.{Log}
use Rattle.clause_base.specs.Formulas.{IsLedBy}
use Rattle.clause_base.specs.Logs.{IsFresh, IsNarrow, LogFollows, Refutes}
use Rattle.clause_base.specs.Solving.{IsLog, IsModel, IsSpent}
use Rattle.input_space.specs.declared.case.Case.{Case}
use Rattle.input_space.specs.declared.session.Query.{Query}
use Rattle.input_space.specs.declared.session.Session.{Session}
use Rattle.input_space.specs.Sessions.{IsBacked, IsHonest, question_of}
use Rattle.input_space.specs.Statements.{bits_of}
use Rattle.input_space.specs.TaskCoding.{StatesQuery, coding}
use Rattle.input_space.specs.Tasks.{Task}
use Rattle.input_space.specs.TaskSpace.{space}
use Rattle.certificate_judge.specs.declared.verdict.Shown.{Shown}
use Rattle.certificate_judge.specs.declared.verdict.Shown.TheVariants as shown
use Rattle.certificate_judge.specs.declared.look.Look.{Look}
use Rattle.certificate_judge.specs.declared.look.Look.TheVariants as look
use Rattle.log_check.specs.BadSteps.{IsBadPlace}
use Rattle.certificate_judge.specs.Places.{DifferAt}

-- a formula that is built for a question
pub record IsBuilt (k : Task) (kept : List Case) (q : Query) (f : Formula) : Type 0 where
  pub states : StatesQuery k kept q f.vars f.clauses
  pub own : bits_of (coding k) (question_of q) + 1 ≤ f.vars
  pub few : f.vars ≤ 2147483647
  pub some : 0 < length f.clauses
  pub none_empty : All (λ c. c.lits ≢ []) f.clauses

-- a session of its own
abbrev pub session_with : Query → Formula → Log → Session
session_with q f log = record { query = q; formula = f; log = log }

-- a log that has as many steps as are allowed, none of them with the empty clause, that follows
-- from the formula and is honest
pub record IsSpentLog (k : Task) (q : Query) (f : Formula) (log : Log) : Type 0 where
  pub log_is : IsLog f.vars f.clauses 200000 log.steps
  pub spent : IsSpent 200000 log.steps
  pub honest : IsHonest (coding k) (session_with q f log)

-- what shows that a formula isn't refuted: values that satisfy it, or a log that is spent
abbrev pub IsShown : Task → Query → Formula → Shown → Type 0
IsShown k q f (shown.Values values) = IsModel f values
IsShown k q f (shown.Spent log) = IsSpentLog k q f log

-- the session's formula isn't the one that is built, and that one isn't refuted
pub record IsOther (k : Task) (kept : List Case) (x : Session) (clause : ℕ) (built : Formula)
    (shown : Shown) : Type 0 where
  pub built_so : IsBuilt k kept x.query built
  pub differ : DifferAt x.formula built clause
  pub shown_so : IsShown k x.query built shown

-- the session's formula states its question, and a step, counted from 1, is the first that doesn't
-- follow
abbrev pub IsBad : Task → List Case → Session → ℕ → Type 0
IsBad k kept x step =
    StatesQuery k kept x.query x.formula.vars x.formula.clauses
    × IsBadPlace x.formula x.log.steps step

-- what is shown by a solver of a formula that it doesn't refute
abbrev pub IsLeft : Formula → Shown → Type 0
IsLeft f (shown.Values values) = IsModel f values
IsLeft f (shown.Spent log) =
    IsLog f.vars f.clauses 200000 log.steps × IsSpent 200000 log.steps
    × (All (λ c. c.lits ≢ []) f.clauses → IsFresh f.clauses log.steps)
    × ((d : ℕ) → IsLedBy d f.vars f.clauses → IsNarrow d log.steps)

-- what comes of asking by a formula from which that of a session differs at a place
abbrev pub IsAsked : Formula → ℕ → Look → Type 0
IsAsked f clause look.Follows = ⊥
IsAsked f clause look.Anew =
    (log : Log) × LogFollows f.vars f.clauses log.steps × Refutes log.steps
IsAsked f clause (look.Other place built shown) =
    (place ≡ clause) × (built ≡ f) × IsLeft f shown
IsAsked f clause (look.Bad step) = ⊥

-- the question was refuted by another formula and its log
pub record IsAnew (k : Task) (kept : List Case) (x : Session) : Type 0 where
  pub other : Session
  pub asked : other.query ≡ x.query
  pub differs : other.formula ≢ x.formula
  pub backed : (budget : ℕ) → IsBacked (space k budget) (coding k) kept other
  pub refuted : Refutes other.log.steps

abbrev pub IsLook : Task → List Case → Session → Look → Type 0
IsLook k kept x look.Follows = (budget : ℕ) → IsBacked (space k budget) (coding k) kept x
IsLook k kept x look.Anew = IsAnew k kept x
IsLook k kept x (look.Other clause built shown) = IsOther k kept x clause built shown
IsLook k kept x (look.Bad step) = IsBad k kept x step
