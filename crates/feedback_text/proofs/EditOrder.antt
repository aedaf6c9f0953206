-- The picks of the edits that a selection makes of a numbered tree rise.
use Rattle.std.proofs.Common.{◌≡◌, ℕ, zero, suc, ◌+◌, ◌<◌, List, [], ◌∷◌, slice_index, subst, arith}
use Rattle.std.specs.List.Sorted.{IsStrictlyIncreasing}
use Rattle.mpy_tree.specs.Shapes.{program_shape}
use Rattle.choice_tree.specs.declared.selection.Choice.{Choice}
use Rattle.choice_tree.specs.Choices.{member_of}
use Rattle.choice_tree.specs.Contexts.{elsewhere, outermost}
use Rattle.choice_tree.specs.Growing.{grown, steps}
use Rattle.choice_tree.specs.Selections.{edited_picks}
use Rattle.choice_tree.proofs.PickOrder.{RisesTo, rise}
use Rattle.input_space.specs.Tasks.{Task, setting, tree_of}

increasing : (from : ℕ) (xs : List ℕ) (to : ℕ) → RisesTo from xs to → IsStrictlyIncreasing xs
increasing from [] to r k h = absurd (omega arith)
increasing from (x ∷ []) to r k h = absurd (omega arith)
increasing from (x ∷ y ∷ rest) to r zero h = let next = r.1.0 in omega arith
increasing from (x ∷ y ∷ rest) to r (suc k) h =
    let P : ℕ → Type 0 = λ n. slice_index (y ∷ rest) k < slice_index (x ∷ y ∷ rest) n in
    let e : suc (k + 1) ≡ suc k + 1 = omega arith in
    subst P e (increasing (suc x) (y ∷ rest) to r.1 k (omega arith))

pub in_order : (k : Task) (s : List Choice) → IsStrictlyIncreasing (edited_picks (member_of s) (tree_of k))
in_order k s =
    let t = program_shape k.submission in
    let w = grown (setting k) (steps t) elsewhere (outermost (setting k)) t in
    increasing 0 _ _ (rise (member_of s) w 0)
