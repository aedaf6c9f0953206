use Rattle.input_space.specs.TaskParts.{task_with}
use Rattle.grade_core.proofs.RunLaws.{certifies, is_claimed}
use Rattle.grade_core.proofs.run.certificate.Goals as goal

pub certificate-requires : goal.certificate-requires
certificate-requires c =
    let r = c.args.r.now in
    is_claimed (task_with c.args.t.now) r.answer r.kept r.sessions c.claim_of-claim.result c.claim_of-claim.ensures c.requires.run

pub returns : goal.returns
returns c =
    let r = c.args.r.now in
    certifies (task_with c.args.t.now) r.answer r.kept r.sessions c.claim_of-claim.result c.in_ok-text.text.items c.claim_of-claim.ensures c.requires.run c.in_ok-text.ensures
