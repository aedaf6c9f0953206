use Rattle.std.proofs.Common.{◌≡◌, drop}
use Rattle.mpy_tree.specs.TypeSets.{join}
use Rattle.mpy_tree.specs.Typings.{set_of}
use Rattle.mpy_scopes.specs.Seen.{slot_of}
use Rattle.mpy_types.proofs.listed.FactList.get.Given as goal

-- with those of the facts that are left, the types so far are all
abbrev pub invariant-loop-fact : goal.invariant-loop-fact
invariant-loop-fact l = set_of l.fact-items l.func (slot_of l.slot) ≡ join l.types (set_of (drop l.fact-index l.fact-items) l.func (slot_of l.slot))
