-- an input within the bounds, and a value of the reference
use Rattle.std.proofs.Common.{◌∙◌, ap, sym}
use Rattle.std.proofs.lemmas.Bool.{false≢true}
use Rattle.mpy_tree.specs.Outcomes.{is_done}
use Rattle.input_space.specs.TaskParts.{task_with}
use Rattle.input_space.proofs.TaskSpaceLaws.{wanted_is_input, was_wanted}
use Rattle.certificate_judge.proofs.WantedLaws.{wanted_if}
use Rattle.certificate_judge.proofs.form.is_wanted.Goals as goal

pub returns-then-not-in_bounds : goal.returns-then-not-in_bounds
returns-then-not-in_bounds c =
    let k = task_with c.args.runs.now.task.now in (
      λ no. absurd (false≢true no),
      λ wanted. rw c.if-not-in_bounds.true at (c.in_bounds.ensures.1 (rw c.bounds.ensures (wanted_is_input k c.args.case.now wanted))),
    )

pub returns : goal.returns
returns c =
    let k = task_with c.args.runs.now.task.now in
    let done = c.is_done.ensures ∙ ap is_done c.in_ok-end.ensures in (
      λ yes. wanted_if k c.args.case.now (rw c.bounds.ensures at (c.in_bounds.ensures.0 c.if-not-in_bounds.false)) (sym done ∙ yes),
      λ wanted. done ∙ was_wanted k c.args.case.now wanted,
    )
