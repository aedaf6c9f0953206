-- What follows from a formula holds wherever the formula holds.
use Rattle.std.specs.Prelude.{◌≡◌, ℕ, Bool, true, List, All}
use Rattle.clause_base.specs.declared.clause.Clause.{Clause}
use Rattle.clause_base.specs.declared.log.Step.{Step}
use Rattle.clause_base.specs.Literals.{clause_true}
use Rattle.clause_base.specs.Formulas.{satisfies}
use Rattle.clause_base.specs.Logs.{LogFollows, Refutes}

-- each clause of a log that follows is true under the values that satisfy the formula
abbrev pub FollowingHolds : Type 0
FollowingHolds = (vars : ℕ) (clauses : List Clause) (steps : List Step) (values : List Bool)
    → LogFollows vars clauses steps → satisfies values clauses ≡ true
    → All (λ s. clause_true values s.clause.lits ≡ true) steps

-- no values satisfy a formula that a log refutes
abbrev pub RefutedHasNoValues : Type 0
RefutedHasNoValues = (vars : ℕ) (clauses : List Clause) (steps : List Step) (values : List Bool)
    → LogFollows vars clauses steps → Refutes steps → satisfies values clauses ≡ true → ⊥
