-- The members of a value, one by one.
use Rattle.std.specs.Prelude.{ℕ, Option, slice_get}
use Rattle.std.specs.declared.result.Result.{Result}
use Rattle.std.specs.declared.result.Result.TheVariants.{Ok}
use Rattle.mpy_tree.specs.declared.value.Value.{Value}
use Rattle.mpy_tree.specs.declared.outcome.Halt.{Halt}
use Rattle.mpy_tree.specs.Values.{◌>>=◌}
use Rattle.mpy_tree.specs.Operations.{members}

-- the member at a place, if there are so many
abbrev pub member_in : Value → ℕ → Result (Option Value) Halt
member_in v k = members v >>= λ vs. Ok (slice_get vs k)
