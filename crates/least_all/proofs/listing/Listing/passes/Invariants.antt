use Rattle.std.specs.Prelude.{◌≡◌, ◌<◌, ℕ, Some, slice_get}
use Rattle.mpy_tree.specs.View.{routines_of}
use Rattle.input_space.specs.TaskSpace.{Meets}
use Rattle.least_all.specs.declared.listing.Tried.{Tried}
use Rattle.least_all.specs.Listings.{task_of}
use Rattle.least_all.proofs.listing.Listing.passes.Given as goal

-- the program gives the values of the reference on the inputs so far
abbrev pub invariant-loop-tried : goal.invariant-loop-tried
invariant-loop-tried l =
    (i : ℕ) (e : Tried) → i < l.tried-index → slice_get l.self.tried.items i ≡ Some e
    → Meets (task_of l.self) (routines_of l.program) e.case
