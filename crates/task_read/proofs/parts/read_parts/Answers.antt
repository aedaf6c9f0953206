-- each source that isn't read stops all, and those before it are read
use Rattle.choice_tree.specs.RuleViews.{corrections_of}
use Rattle.task_read.proofs.Stopping.{stopped_in}
use Rattle.task_read.proofs.Ready.{are_ready}
use Rattle.task_read.proofs.TaskReading.{at_reference, at_rules, at_submission, parts_given, typed}
use Rattle.task_read.proofs.parts.read_parts.Goals as goal

pub returns-in_err-reference-clause-refused : goal.returns-in_err-reference-clause-refused
returns-in_err-reference-clause-refused c =
    stopped_in c.from_residual-in_err-reference.result _ _ c.in_err-reference.field-0.0 c.from_residual-in_err-reference.ensures.1 c.in_err-reference.ensures.refused
    (at_reference c.args.bounds.now c.args.reference.now c.args.submission.now c.args.rules.now c.in_ok-bounds.bounds c.in_ok-bounds.ensures.read)

pub returns-in_err-submission-clause-refused : goal.returns-in_err-submission-clause-refused
returns-in_err-submission-clause-refused c =
    stopped_in c.from_residual-in_err-submission.result _ _ c.in_err-submission.field-0.0 c.from_residual-in_err-submission.ensures.1 c.in_err-submission.ensures.refused
    (at_submission c.args.bounds.now c.args.reference.now c.args.submission.now c.args.rules.now c.in_ok-bounds.bounds
    (typed c.in_ok-reference.reference c.in_ok-reference.reference_types) c.in_ok-bounds.ensures.read c.in_ok-reference.ensures.read)

pub returns-in_err-rules-clause-refused : goal.returns-in_err-rules-clause-refused
returns-in_err-rules-clause-refused c =
    stopped_in c.from_residual-in_err-rules.result _ _ c.in_err-rules.field-0.0 c.from_residual-in_err-rules.ensures.1 c.in_err-rules.ensures.refused
    (at_rules c.args.bounds.now c.args.reference.now c.args.submission.now c.args.rules.now c.in_ok-bounds.bounds
    (typed c.in_ok-reference.reference c.in_ok-reference.reference_types) (typed c.in_ok-submission.submission c.in_ok-submission.submission_types)
    c.in_ok-bounds.ensures.read c.in_ok-reference.ensures.read c.in_ok-submission.ensures.read)

pub returns-clause-read : goal.returns-clause-read
returns-clause-read c =
    parts_given c.args.bounds.now c.args.reference.now c.args.submission.now c.args.rules.now c.in_ok-bounds.bounds
    (typed c.in_ok-reference.reference c.in_ok-reference.reference_types) (typed c.in_ok-submission.submission c.in_ok-submission.submission_types)
    (corrections_of c.in_ok-rules.rules) c.in_ok-bounds.ensures.read c.in_ok-reference.ensures.read c.in_ok-submission.ensures.read c.in_ok-rules.ensures.read

pub returns-clause-ready : goal.returns-clause-ready
returns-clause-ready c =
    are_ready c.what_is_read_is_proper.ensures.holds
    c.args.reference.now c.args.submission.now c.args.rules.now c.in_ok-bounds.bounds
    (typed c.in_ok-reference.reference c.in_ok-reference.reference_types) (typed c.in_ok-submission.submission c.in_ok-submission.submission_types)
    (corrections_of c.in_ok-rules.rules) c.in_ok-reference.ensures.read c.in_ok-submission.ensures.read c.in_ok-rules.ensures.read
