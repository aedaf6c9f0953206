-- A run whose calls may go as deep as the limits allow.
use Rattle.std.proofs.Common.{◌≡◌, ℕ, suc, ◌-◌, List, subst, arith}
use Rattle.std.specs.declared.result.Result.{Result}
use Rattle.mpy_tree.specs.declared.limits.Limits.{Limits}
use Rattle.mpy_tree.specs.declared.value.Value.{Value}
use Rattle.mpy_tree.specs.Syntax.{Routine}
use Rattle.mpy_tree.specs.Running.{done_by, found, enter, calls_below, kept_first, evaluated}
use Rattle.value_operations.specs.declared.stop.Stop.{Stop}
use Rattle.value_operations.specs.Answers.{MeetsBy}
use Rattle.mpy_interp.specs.declared.program.End.{End}
use Rattle.mpy_interp.specs.Ends.{done_of}

pub at_depth : (l : Limits) (p : List Routine) (entry : List ℕ) (vs : List Value) (n : ℕ) (r : Result End Stop) → l.depth ≡ suc n → MeetsBy done_of r (enter done_by (kept_first l) l (calls_below l p n) (found p entry) vs 1) → MeetsBy done_of r (evaluated l p entry vs)
at_depth l p entry vs n r e h =
    let same : n ≡ l.depth - 1 = omega (arith, e) in
    subst (λ m. MeetsBy done_of r (enter done_by (kept_first l) l (calls_below l p m) (found p entry) vs 1)) same h
