-- The words of the command `all`.
use Rattle.std.specs.Prelude.{ℕ, ◌≤◌, List}

-- four names of files, how many corrections are written at most, and the budget
pub record AllWords : Type 0 where
  pub bounds : List ℕ
  pub reference : List ℕ
  pub submission : List ℕ
  pub rules : List ℕ
  pub most : ℕ
  pub budget : ℕ

-- a number from 1 to 100
pub record IsMost (n : ℕ) : Type 0 where
  pub least : 1 ≤ n
  pub most : n ≤ 100
