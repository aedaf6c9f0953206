-- The first place at which something doesn't hold, and where two formulas differ.
use Rattle.std.specs.Prelude.{◌≡◌, ◌≢◌, ℕ, zero, suc, List, All, take, slice_get, Some}
use Rattle.clause_base.specs.declared.formula.Formula.{Formula}

-- the first place, counted from 0, at which the fact doesn't hold
pub record IsFirstOff {A : Type 0} (Fact : A → Type 0) (xs : List A) (place : ℕ) : Type 0 where
  pub one : A
  pub at : slice_get xs place ≡ Some one
  pub off : Fact one → ⊥
  pub before : All Fact (take place xs)

-- The place, counted from 1, of the first clause that two formulas don't share; 0 where they share
-- all clauses and have other variables.
abbrev pub DifferAt : Formula → Formula → ℕ → Type 0
DifferAt f g zero = (f.clauses ≡ g.clauses) × (f.vars ≢ g.vars)
DifferAt f g (suc i) =
    (take i f.clauses ≡ take i g.clauses) × (slice_get f.clauses i ≢ slice_get g.clauses i)
