use Rattle.std.specs.Prelude.{◌≡◌, ◌<◌, ℕ, Some, slice_get}
use Rattle.mpy_tree.specs.View.{routines_of}
use Rattle.least_all.specs.declared.listing.Found.{Found}
use Rattle.least_all.specs.BestLists.{AreSame}
use Rattle.least_all.proofs.listing.Listing.has.Given as goal

-- none so far is the same
abbrev pub invariant-loop-found : goal.invariant-loop-found
invariant-loop-found l =
    (i : ℕ) (f : Found) → i < l.found-index → slice_get l.self.found.items i ≡ Some f
    → AreSame (routines_of f.program) (routines_of l.program) → ⊥
