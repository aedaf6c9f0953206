use Rattle.std.proofs.Common.{take}
use Rattle.task_bits.proofs.FirstValues.{AreFirst}
use Rattle.task_bits.proofs.constants.constant_case.Given as goal

abbrev pub invariant-loop-value : goal.invariant-loop-value
invariant-loop-value g l =
    AreFirst g.L.Logic.owns g.L.Logic.reads l.g l.bounds.limits
    (take l.value-index l.case.values) l.args.items
