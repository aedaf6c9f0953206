-- an accepted certificate shows its claim
use Rattle.input_space.specs.TaskParts.{task_with}
use Rattle.certificate_judge.proofs.KnownLaws.{known}
use Rattle.certificate_judge.proofs.trial.judge.Goals as goal

pub returns-in-Ok-clause-known : goal.returns-in-Ok-clause-known
returns-in-Ok-clause-known c =
    let k = task_with c.args.t.now in
    known c.right_certificates_show.ensures.cost c.right_certificates_show.ensures.nothing k c.args.c.now c.in-Ok.verdict c.is_sound.ensures (rw c.bounds.ensures at c.alphabets_are_printable.ensures) (rw c.in-Ok.is at c.judge_all.ensures)
