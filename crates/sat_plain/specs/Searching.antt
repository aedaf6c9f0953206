-- A search: the decisions, the queue of propagation, and what the log keeps clear of.
use Rattle.std.specs.Prelude.{◌≡◌, ◌≢◌, ◌⊎◌, ℕ, ◌+◌, ◌<◌, ◌≤◌, true, false, List, [], ◌∷◌, ◌++◌}
use Rattle.std.specs.Prelude.{length, slice_get, Option, Some, None, MatchOption, All}
use Rattle.std.specs.Option.{is_some}
use Rattle.clause_base.specs.declared.lit.Lit.{Lit}
use Rattle.clause_base.specs.declared.clause.Clause.{Clause}
use Rattle.clause_base.specs.declared.log.Step.{Step}
use Rattle.clause_base.specs.Formulas.{clauses_in_range, in_range}
use Rattle.clause_base.specs.Literals.{opposite}
use Rattle.clause_base.specs.Logs.{IsFresh, LogFollows, Refutes, known_of}
use Rattle.sat_plain.specs.declared.trail.Entry.{Entry}
use Rattle.sat_plain.specs.Places.{Index, IsIndexOf}
use Rattle.sat_plain.specs.Trails.{IsTrail, IsValued, IsWatched, Path, decided, is_among}
use Rattle.sat_plain.specs.Trails.{literals_of, oldest, standing}

-- a formula, where its literals stand, the steps that were logged, and the entries with the newest
-- first
pub record State : Type 0 where
  pub vars : ℕ
  pub clauses : List Clause
  pub index : Index
  pub steps : List Step
  pub entries : List Entry

-- entries were added
pub record Grows (old new : State) : Type 0 where
  pub added : List Entry
  pub is : new ≡ record old { entries = added ++ old.entries }

-- no clause is unit or false, as far as the handled literals go
pub record AllWatched (clauses : List Clause) (known handled : List Lit) : Type 0 where
  pub each : (k : ℕ) (c : Clause) → slice_get clauses k ≡ Some c → IsWatched known handled c.lits

-- each clause with the literal was looked at, and none came to be unit or false
pub record IsSeen (old new : State) (l : Lit) : Type 0 where
  pub each : (k : ℕ) (c : Clause) → slice_get new.clauses k ≡ Some c → is_among l c.lits ≡ true
      → IsWatched (literals_of new.entries) (literals_of old.entries) c.lits

-- a decision is negative, of the least variable without a value, and taken where no clause is unit
-- or false
pub record IsDecision (clauses : List Clause) (before : List Lit) (l : Lit) : Type 0 where
  pub negative : l.positive ≡ false
  pub least : (v : ℕ) → 0 < v → v < l.var → IsValued before v
  pub calm : AllWatched clauses before before

abbrev pub IfDecided : Option ℕ → Type 0 → Type 0
IfDecided None fact = fact
IfDecided (Some number) fact = Unit {0}

abbrev pub AreDecisions : List Clause → List Entry → Type 0
AreDecisions clauses [] = Unit {0}
AreDecisions clauses (e ∷ older) =
    IfDecided e.reason (IsDecision clauses (literals_of older) e.lit) × AreDecisions clauses older

-- a clause has the opposite of each decision
pub record Denies (entries : List Entry) (lits : List Lit) : Type 0 where
  pub each : (l : Lit) → is_among l (decided entries) ≡ true → is_among (opposite l) lits ≡ true

-- a literal of the clause is implied, and the clause has the opposite of each decision before it
abbrev pub IsGuarded : List Entry → List Lit → Type 0
IsGuarded [] lits = ⊥
IsGuarded (e ∷ older) lits =
    ((is_some e.reason ≡ true) × (is_among e.lit lits ≡ true) × Denies older lits)
    ⊎ IsGuarded older lits

-- no clause is empty
abbrev pub NoneEmpty : List Clause → Type 0
NoneEmpty clauses = All (λ c. c.lits ≢ []) clauses

-- no logged clause is empty
abbrev pub NoneRefutes : List Step → Type 0
NoneRefutes steps = All (λ s. s.clause.lits ≢ []) steps

-- a log that follows so far
pub record IsLogged (vars : ℕ) (clauses : List Clause) (steps : List Step) : Type 0 where
  pub follows : LogFollows vars clauses steps
  pub in_range : clauses_in_range vars (known_of clauses steps) ≡ true
  pub numbered : length clauses + length steps ≤ 2147483647
  pub fresh : NoneEmpty clauses → IsFresh clauses steps

-- what holds of each state
pub record IsSearch (s : State) : Type 0 where
  pub index : IsIndexOf s.vars s.clauses s.index
  pub logged : IsLogged s.vars s.clauses s.steps
  pub trail : IsTrail (known_of s.clauses s.steps) s.entries
  pub decisions : AreDecisions s.clauses s.entries
  pub guarded : All (λ t. t.clause.lits ≢ [] → IsGuarded s.entries t.clause.lits) s.steps

-- each variable has a value, and no clause is false
pub record IsFull (s : State) : Type 0 where
  pub valued : (v : ℕ) → 0 < v → v ≤ s.vars → IsValued (literals_of s.entries) v
  pub calm : AllWatched s.clauses (literals_of s.entries) (literals_of s.entries)

-- the newest entries were taken away, up to the newest decision and with it
pub record IsUndoneTo (old new : Path) (l : Lit) : Type 0 where
  pub vars : new.vars ≡ old.vars
  pub newer : List Entry
  pub implied : All (λ e. is_some e.reason ≡ true) newer
  pub is : old.entries ≡ newer ++ (record { lit = l; reason = None }) ∷ new.entries
  pub range : in_range new.vars l ≡ true
  pub unset : standing (literals_of new.entries) l ≡ None

abbrev pub IsUndone : Path → Path → Option Lit → Type 0
IsUndone old new None = decided old.entries ≡ []
IsUndone old new (Some l) = IsUndoneTo old new l

-- a search that goes on with the literals from a place on
pub record GoesOn (s : State) (from : ℕ) : Type 0 where
  pub within : from ≤ length s.entries
  pub settled : AllWatched s.clauses (literals_of s.entries) (oldest from (literals_of s.entries))
  pub going : NoneRefutes s.steps

-- a step was logged, and the newest decision taken back if there was one
pub record IsTaken (old new : State) (from : Option ℕ) : Type 0 where
  pub vars : new.vars ≡ old.vars
  pub clauses : new.clauses ≡ old.clauses
  pub many : length new.steps ≡ length old.steps + 1
  pub answer : MatchOption from (Refutes new.steps) (GoesOn new)
