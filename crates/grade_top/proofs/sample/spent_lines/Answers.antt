-- the number, what is written of the answer, and the certificate
use Rattle.std.proofs.Common.{◌∙◌, ◌++◌, ap, append_assoc, option_map}
use Rattle.input_space.specs.TaskParts.{task_with}
use Rattle.grade_top.specs.Reports.{cert_bytes}
use Rattle.grade_top.proofs.SampleLaws.{spent_is}
use Rattle.grade_top.proofs.sample.spent_lines.Goals as goal

pub returns : goal.returns
returns c =
    let cert = option_map (λ v. v.items) c.args.graded.now.cert in
    let head = c.into_bytes-text.result.items in
    let lines = c.in_ok-lines.lines.items in
    spent_is c.args.number (task_with c.args.graded.now.task) c.args.graded.now.answer c.requires.spent.0 c.requires.spent.1 cert head lines _ c.requires.spent.2
    (ap (λ v. v.items) c.into_bytes-text.ensures.value ∙ c.in_ok-format.ensures.ok) c.in_ok-lines.ensures
    (c.in_ok-push_cert.ensures ∙ ap (λ ys. ys ++ cert_bytes cert) (c.in_ok-extend_from_slice.ensures.items ∙ ap (λ ys. head ++ ys) c.as_slice.ensures.value)
    ∙ append_assoc head lines (cert_bytes cert))
