-- The words of the command `grade`.
use Rattle.std.specs.Prelude.{ℕ, ◌≤◌, List}

-- five names of files, and the budget
pub record GradeWords : Type 0 where
  pub bounds : List ℕ
  pub reference : List ℕ
  pub submission : List ℕ
  pub rules : List ℕ
  pub cert : List ℕ
  pub budget : ℕ

-- a number from 1 to 200000
pub record IsBudget (n : ℕ) : Type 0 where
  pub least : 1 ≤ n
  pub most : n ≤ 200000
