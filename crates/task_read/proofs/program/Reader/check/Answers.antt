-- the first fault of names or types is told
use Rattle.std.proofs.Common.{Err, ap, refl, ◌∙◌}
use Rattle.mpy_tree.specs.Entries.{entry_of}
use Rattle.mpy_tree.specs.View.{routines_of}
use Rattle.task_read.specs.TypedPrograms.{by_fault, by_conflict}
use Rattle.task_read.proofs.Answers.{at_fault, at_conflict}
use Rattle.task_read.proofs.program.Reader.check.Goals as goal

pub returns-in-Err-Fault-clause-refused : goal.returns-in-Err-Fault-clause-refused
returns-in-Err-Fault-clause-refused c =
    let fault = at_fault c.check_types.result (routines_of c.args.p.now) (entry_of c.args.self.now.signature.now) c.in-Err-Fault.cause c.in-Err-Fault.line
    (c.in-Err-Fault.is ∙ ap Err c.in-Err-Fault.field-0-is) c.check_types.ensures in
    rw c.refused.ensures (refl, by_fault c.in-Err-Fault.cause c.in-Err-Fault.line fault)

pub returns-in-Err-Conflict-clause-refused : goal.returns-in-Err-Conflict-clause-refused
returns-in-Err-Conflict-clause-refused c =
    let fault = at_conflict c.check_types.result (routines_of c.args.p.now) (entry_of c.args.self.now.signature.now) c.in-Err-Conflict.line c.in-Err-Conflict.field-0-1 c.in-Err-Conflict.field-0-2
    (c.in-Err-Conflict.is ∙ ap Err c.in-Err-Conflict.field-0-is) c.check_types.ensures in
    rw c.refused-in-Err-Conflict.ensures (refl, by_conflict c.in-Err-Conflict.line c.in-Err-Conflict.field-0-1 c.in-Err-Conflict.field-0-2 fault)
