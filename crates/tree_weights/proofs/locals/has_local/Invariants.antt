use Rattle.std.proofs.Common.{◌≡◌, drop}
use Rattle.std.specs.List.{list_any}
use Rattle.mpy_tree.specs.declared.typing.Slot.TheVariants as slot
use Rattle.mpy_tree.specs.SetTypes.{same_place}
use Rattle.tree_weights.proofs.locals.has_local.Given as goal

-- the local has no fact so far
abbrev pub invariant-loop-fact : goal.invariant-loop-fact
invariant-loop-fact l =
    list_any (λ g. same_place l.func (slot.Local l.x) g.func g.slot) l.facts
    ≡ list_any (λ g. same_place l.func (slot.Local l.x) g.func g.slot) (drop l.fact-index l.facts)
