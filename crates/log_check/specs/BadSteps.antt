-- The first step of a log that doesn't follow.
use Rattle.std.specs.Prelude.{◌≡◌, ℕ, zero, suc, List, take, slice_get, Some}
use Rattle.clause_base.specs.declared.formula.Formula.{Formula}
use Rattle.clause_base.specs.declared.log.Step.{Step}
use Rattle.clause_base.specs.Logs.{LogFollows, StepFollows, known_of}

-- the first step, counted from 0, that doesn't follow from the formula and the steps before it
pub record IsFirstBad (f : Formula) (steps : List Step) (place : ℕ) : Type 0 where
  pub one : Step
  pub at : slice_get steps place ≡ Some one
  pub off : StepFollows f.vars (known_of f.clauses (take place steps)) one → ⊥
  pub before : LogFollows f.vars f.clauses (take place steps)

-- the same, counted from 1
abbrev pub IsBadPlace : Formula → List Step → ℕ → Type 0
IsBadPlace f steps zero = ⊥
IsBadPlace f steps (suc place) = IsFirstBad f steps place
