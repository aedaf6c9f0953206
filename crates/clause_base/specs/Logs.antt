-- Logs: clauses that follow one after the other, each by its hints.
use Rattle.std.specs.Prelude.{◌≡◌, ℕ, ◌-◌, ◌<◌, ◌≤◌, Bool, true, false, List, [], ◌∷◌, ◌++◌, length}
use Rattle.std.specs.Prelude.{map, slice_get, IsSomeAnd, All}
use Rattle.std.specs.List.{list_all, list_any}
use Rattle.clause_base.specs.declared.lit.Lit.{Lit}
use Rattle.clause_base.specs.declared.clause.Clause.{Clause}
use Rattle.clause_base.specs.declared.log.Step.{Step}
use Rattle.clause_base.specs.declared.answer.StepAnswer.TheVariants.{Good}
use Rattle.clause_base.specs.Literals.{same_literal, IsCovered}
use Rattle.clause_base.specs.Formulas.{in_range}
use Rattle.clause_base.specs.Follows.{answer_of, hinted}

-- the clauses of the formula and then those of the steps
abbrev pub known_of : List Clause → List Step → List Clause
known_of clauses steps = clauses ++ map (λ s. s.clause) steps

-- a step follows from the clauses before it
pub record StepFollows (vars : ℕ) (known : List Clause) (step : Step) : Type 0 where
  pub within : list_all (in_range vars) step.clause.lits ≡ true
  pub named : All (λ h. (0 < h) × (h ≤ length known)) step.hints
  pub good : answer_of step.clause.lits (hinted known step.hints) ≡ Good

-- a fact of each step and of the clauses before it
abbrev pub EachStep : (List Clause → Step → Type 0) → List Clause → List Step → Type 0
EachStep fact known [] = Unit {0}
EachStep fact known (s ∷ steps) = fact known s × EachStep fact (known ++ s.clause ∷ []) steps

-- each step follows from the formula's clauses and the steps before it
abbrev pub LogFollows : ℕ → List Clause → List Step → Type 0
LogFollows vars clauses steps = EachStep (StepFollows vars) clauses steps

-- the last clause is empty
abbrev pub Refutes : List Step → Type 0
Refutes steps = IsSomeAnd (slice_get steps (length steps - 1)) (λ last. last.clause.lits ≡ [])

-- each literal of the smaller clause stands in the larger one
abbrev pub contains : List Lit → List Lit → Bool
contains larger smaller = list_all (λ l. list_any (same_literal l) larger) smaller

-- the clause contains no known clause
abbrev pub IsNew : List Clause → Clause → Type 0
IsNew known clause = list_any (λ k. contains clause.lits k.lits) known ≡ false

-- no clause contains a clause of the formula or an earlier one of the log
abbrev pub IsFresh : List Clause → List Step → Type 0
IsFresh clauses steps = EachStep (λ known s. IsNew known s.clause) clauses steps

-- each variable is one of the first d
abbrev pub IsNarrow : ℕ → List Step → Type 0
IsNarrow d steps = All (λ s. IsCovered d s.clause.lits) steps
