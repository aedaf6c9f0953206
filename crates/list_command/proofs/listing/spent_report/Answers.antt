use Rattle.std.proofs.Common.{◌∙◌, ap, ◌++◌}
use Rattle.input_space.specs.TaskParts.{task_with}
use Rattle.list_command.proofs.Listed.{spent_text_of}
use Rattle.list_command.proofs.listing.spent_report.Goals as goal

pub returns-clause-text : goal.returns-clause-text
returns-clause-text c =
    spent_text_of (task_with c.args.task.now) c.args.cost c.args.budget c.in_ok-text.text.items c.in_ok-cert.cert.items _ c.args.sessions.now
    c.in_ok-text.ensures c.in_ok-cert.ensures c.requires.spent
    (c.in_ok-extend_from_slice.ensures.items ∙ ap (λ t. c.in_ok-text.text.items ++ t) c.as_slice.ensures.value)
