-- What a solver answers.
use Rattle.std.specs.Prelude.{◌≡◌, ◌≢◌, ℕ, ◌+◌, ◌≤◌, Bool, true, List, [], length, All}
use Rattle.clause_base.specs.declared.clause.Clause.{Clause}
use Rattle.clause_base.specs.declared.formula.Formula.{Formula}
use Rattle.clause_base.specs.declared.log.Step.{Step}
use Rattle.clause_base.specs.declared.solved.Solved.{Solved}
use Rattle.clause_base.specs.declared.solved.Solved.TheVariants.{Holds, Refuted, Spent, NoMemory}
use Rattle.clause_base.specs.Formulas.{satisfies}
use Rattle.clause_base.specs.Logs.{LogFollows, Refutes}

-- the steps follow from the formula, and are at most so many; the numbers of clauses keep their
-- limit
pub record IsLog (vars : ℕ) (clauses : List Clause) (budget : ℕ) (steps : List Step) : Type 0 where
  pub follows : LogFollows vars clauses steps
  pub within : length steps ≤ budget
  pub numbered : length clauses + length steps ≤ 2147483647

-- a fact of the log, where the answer has one
abbrev pub IfLog : Solved → (List Step → Type 0) → Type 0
IfLog (Holds values log) fact = fact log.steps
IfLog (Refuted log) fact = fact log.steps
IfLog (Spent log) fact = fact log.steps
IfLog NoMemory fact = Unit {0}

abbrev pub IfHolds : Solved → (List Bool → Type 0) → Type 0
IfHolds (Holds values log) fact = fact values
IfHolds (Refuted log) fact = Unit {0}
IfHolds (Spent log) fact = Unit {0}
IfHolds NoMemory fact = Unit {0}

abbrev pub IfRefuted : Solved → (List Step → Type 0) → Type 0
IfRefuted (Holds values log) fact = Unit {0}
IfRefuted (Refuted log) fact = fact log.steps
IfRefuted (Spent log) fact = Unit {0}
IfRefuted NoMemory fact = Unit {0}

abbrev pub IfSpent : Solved → (List Step → Type 0) → Type 0
IfSpent (Holds values log) fact = Unit {0}
IfSpent (Refuted log) fact = Unit {0}
IfSpent (Spent log) fact = fact log.steps
IfSpent NoMemory fact = Unit {0}

-- a value for each variable, and each clause true
pub record IsModel (f : Formula) (values : List Bool) : Type 0 where
  pub many : length values ≡ f.vars
  pub satisfied : satisfies values f.clauses ≡ true

-- exactly so many steps, none of them with the empty clause
pub record IsSpent (budget : ℕ) (steps : List Step) : Type 0 where
  pub many : length steps ≡ budget
  pub none_empty : All (λ s. s.clause.lits ≢ []) steps

-- what the answer to a formula says
pub record IsAnswer (f : Formula) (budget : ℕ) (answer : Solved) : Type 0 where
  pub log : IfLog answer (IsLog f.vars f.clauses budget)
  pub holds : IfHolds answer (IsModel f)
  pub refuted : IfRefuted answer Refutes
  pub spent : IfSpent answer (IsSpent budget)
