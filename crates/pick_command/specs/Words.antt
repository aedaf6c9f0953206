-- The words of the command `pick`.
use Rattle.std.specs.Prelude.{ℕ, List}

-- the names of bounds, of a reference, and of submissions
pub record PickWords : Type 0 where
  pub bounds : List ℕ
  pub reference : List ℕ
  pub submissions : List (List ℕ)
