-- Formulas: conjunctions of clauses.
use Rattle.std.specs.Prelude.{◌≡◌, ℕ, ◌-◌, ◌==◌, ◌<◌, ◌≤◌, Bool, true, false, ◌&&◌, List, length}
use Rattle.std.specs.Prelude.{nat_le, nat_lt, All, take, drop, slice_get, Some}
use Rattle.std.specs.List.{list_any, list_all}
use Rattle.clause_base.specs.declared.lit.Lit.{Lit}
use Rattle.clause_base.specs.declared.clause.Clause.{Clause}
use Rattle.clause_base.specs.Literals.{literal_true, clause_true}

abbrev pub in_range : ℕ → Lit → Bool
in_range vars l = nat_lt 0 l.var && nat_le l.var vars

abbrev pub clauses_in_range : ℕ → List Clause → Bool
clauses_in_range vars clauses = list_all (λ c. list_all (in_range vars) c.lits) clauses

-- the values make each clause true
abbrev pub satisfies : List Bool → List Clause → Bool
satisfies values clauses = list_all (λ c. clause_true values c.lits) clauses

-- values of the variables from 2 on extend to values that satisfy the clauses
pub record Extend (inputs : List Bool) (vars : ℕ) (clauses : List Clause) : Type 0 where
  pub values : List Bool
  pub many : length values ≡ vars
  pub begins : take (length inputs) (drop 1 values) ≡ inputs
  pub satisfied : satisfies values clauses ≡ true

-- a clause whose greatest variable is this one, and whose other literals are false
pub record IsForcing (v : ℕ) (values : List Bool) (clause : Clause) : Type 0 where
  pub stands : list_any (λ l. l.var == v) clause.lits ≡ true
  pub greatest : All (λ l. l.var ≤ v) clause.lits
  pub others : All (λ l. l.var < v → literal_true values l ≡ false) clause.lits

-- the values of the first d variables decide each of the others in turn
pub record IsLedBy (d vars : ℕ) (clauses : List Clause) : Type 0 where
  pub forced : (v : ℕ) → d < v → v ≤ vars → (values : List Bool) → length values ≡ v - 1
      → (k : ℕ) × (clause : Clause) × (slice_get clauses k ≡ Some clause)
      × IsForcing v values clause
