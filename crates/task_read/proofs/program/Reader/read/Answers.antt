-- each step that stops is the first
use Rattle.mpy_tree.specs.View.{routines_of}
use Rattle.task_read.specs.TypedPrograms.{by_text, by_typing, by_sharing}
use Rattle.task_read.proofs.Stopping.{stopped}
use Rattle.task_read.proofs.program.Reader.read.Goals as goal

pub returns-in_err-p-clause-refused : goal.returns-in_err-p-clause-refused
returns-in_err-p-clause-refused c =
    stopped c.from_residual.result c.args.self.now.source _ _ c.in_err-p.field-0.0 c.from_residual.ensures.1 c.in_err-p.ensures.refused by_text

pub returns-in_err-types-clause-refused : goal.returns-in_err-types-clause-refused
returns-in_err-types-clause-refused c =
    stopped c.from_residual-in_err-types.result c.args.self.now.source _ _ c.in_err-types.field-0.0 c.from_residual-in_err-types.ensures.1 c.in_err-types.ensures.refused
    (λ d line h. by_typing (routines_of c.in_ok-p.p) d line c.in_ok-p.ensures.read h)

pub returns-in_err-look_for_sharing-clause-refused : goal.returns-in_err-look_for_sharing-clause-refused
returns-in_err-look_for_sharing-clause-refused c =
    stopped c.from_residual-in_err-look_for_sharing.result c.args.self.now.source _ _ c.in_err-look_for_sharing.field-0.0 c.from_residual-in_err-look_for_sharing.ensures.1 c.in_err-look_for_sharing.ensures.refused
    (λ d line h. by_sharing (routines_of c.in_ok-p.p) c.in_ok-types.types.facts d line c.in_ok-p.ensures.read c.in_ok-types.ensures.typing h)
