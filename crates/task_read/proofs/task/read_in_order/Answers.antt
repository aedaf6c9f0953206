-- each step that stops is the first
use Rattle.std.proofs.Common.{sym, subst}
use Rattle.input_space.specs.declared.task.TaskParts.{TaskParts}
use Rattle.input_space.specs.TaskParts.{task_with}
use Rattle.task_read.specs.TaskSteps.{task_step}
use Rattle.task_read.proofs.Stopping.{stopped_in}
use Rattle.task_read.proofs.TaskReading.{at_results, at_size, task_given}
use Rattle.task_read.proofs.task.read_in_order.Goals as goal

pub returns-in_err-compare_results-clause-refused : goal.returns-in_err-compare_results-clause-refused
returns-in_err-compare_results-clause-refused c =
    stopped_in c.from_residual-in_err-compare_results.result _ _ c.in_err-compare_results.field-0.0 c.from_residual-in_err-compare_results.ensures.1 c.in_err-compare_results.ensures.refused
    (at_results c.args.bounds.now c.args.reference.now c.args.submission.now c.args.rules.now (task_with c.in_ok-parts.parts) c.in_ok-parts.ensures.read)

pub returns-in_err-tree-clause-refused : goal.returns-in_err-tree-clause-refused
returns-in_err-tree-clause-refused c =
    stopped_in c.from_residual-in_err-tree.result _ _ c.in_err-tree.field-0.0 c.from_residual-in_err-tree.ensures.1 c.in_err-tree.ensures.refused
    (at_size c.args.bounds.now c.args.reference.now c.args.submission.now c.args.rules.now (task_with c.in_ok-parts.parts) c.in_ok-parts.ensures.read c.in_ok-compare_results.ensures.one_type)

pub returns-clause-read : goal.returns-clause-read
returns-clause-read c =
    subst (λ (p : TaskParts). (task_step c.args.bounds.now c.args.reference.now c.args.submission.now c.args.rules.now).gives (task_with p)) (sym c.new.ensures)
    (task_given c.args.bounds.now c.args.reference.now c.args.submission.now c.args.rules.now (task_with c.in_ok-parts.parts)
    c.in_ok-parts.ensures.read c.in_ok-compare_results.ensures.one_type c.in_ok-tree.ensures.small)
