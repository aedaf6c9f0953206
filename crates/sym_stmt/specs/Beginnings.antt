-- The state in which a function's body begins.
use Rattle.std.proofs.Common.{◌≡◌, ℕ, List, [], Option, Some, None, ap}
use Rattle.std.specs.Prelude.{◌==◌, if◌then◌else◌}
use Rattle.mpy_tree.specs.declared.value.Value.{Value}
use Rattle.mpy_tree.specs.Running.{bound}
use Rattle.mpy_tree.specs.Values.{State}
use Rattle.sym_paths.specs.declared.slots.Slots.{Slots}
use Rattle.sym_paths.specs.Slots.{kept_by}

-- parameters with arguments, and what is kept at first
abbrev pub begins : List (List ℕ) → List Value → Option (List Value) → State
begins params values kept = record { locals = bound params values; printed = kept }

-- what is kept at first where so many printed values are
pub kept_where : (c : Slots) (n : ℕ) → c.prints ≡ n
    → kept_by c ≡ (if n == 0 then None else Some [])
kept_where c n e = ap (λ i. if i == 0 then None else Some []) e
