-- The words of the commands `sat` and `unsat`.
use Rattle.std.specs.Prelude.{ℕ, List}

-- the names of a formula and of the place for a proof, and how many clauses may be derived
pub record SatWords : Type 0 where
  pub cnf : List ℕ
  pub log : List ℕ
  pub budget : ℕ

-- the names of a formula and of a proof
pub record UnsatWords : Type 0 where
  pub cnf : List ℕ
  pub log : List ℕ
