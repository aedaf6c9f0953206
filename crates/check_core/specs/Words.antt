-- The words of the command `check`.
use Rattle.std.specs.Prelude.{ℕ, List}

-- five names of files
pub record CheckWords : Type 0 where
  pub bounds : List ℕ
  pub reference : List ℕ
  pub submission : List ℕ
  pub rules : List ℕ
  pub cert : List ℕ
