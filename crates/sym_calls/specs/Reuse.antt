-- When what calls gave can be given again.
use Rattle.std.specs.Prelude.{◌≡◌, ℕ, List}
use Rattle.mpy_tree.specs.declared.limits.Limits.{Limits}
use Rattle.mpy_tree.specs.Expressions.{Calls}
use Rattle.sym_expr.specs.Signatures.{Signatures}
use Rattle.sym_calls.specs.Remembered.{Fixed}

-- The picks and the functions are the fixed ones, the functions find their picks, and the calls of
-- their level are among theirs.
pub record CanReuse {B : Type 0} (k : Fixed B) (signatures : Signatures)
    (are_calls : Limits → (ℕ → ℕ) → Calls → Type 0) (have_picks : List (List B) → Type 0)
    (level : ℕ) (picks : List (List B)) : Type 0 where
  pub same : signatures ≡ k.signatures
  pub fixed : picks ≡ k.picks
  pub many : have_picks picks
  pub level_calls : (l : Limits) (m : ℕ → ℕ) (calls : Calls) → k.are_calls level l m calls
      → are_calls l m calls
