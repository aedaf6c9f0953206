-- the steps give one task, or refuse once
use Rattle.task_read.specs.TaskSteps.{task_step}
use Rattle.task_read.proofs.OneStep.{one_task_step}
use Rattle.task_read.proofs.TaskAnswers.{given_by, refused_by}
use Rattle.task_read.proofs.task.read_task.Goals as goal

pub returns-clause-task : goal.returns-clause-task
returns-clause-task c =
    given_by (task_step c.args.bounds.now c.args.reference.now c.args.submission.now c.args.rules.now) c.read_in_order.result
    (one_task_step c.args.bounds.now c.args.reference.now c.args.submission.now c.args.rules.now) c.read_in_order.ensures.read c.read_in_order.ensures.refused

pub returns-clause-refusal : goal.returns-clause-refusal
returns-clause-refusal c =
    refused_by (task_step c.args.bounds.now c.args.reference.now c.args.submission.now c.args.rules.now) c.read_in_order.result
    (one_task_step c.args.bounds.now c.args.reference.now c.args.submission.now c.args.rules.now) c.read_in_order.ensures.read c.read_in_order.ensures.refused
