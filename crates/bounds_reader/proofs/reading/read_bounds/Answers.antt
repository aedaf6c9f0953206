use Rattle.std.proofs.Common.{IfOk, IfErr, subst}
use Rattle.bounds_reader.specs.Files.{IsBounds, IsAnswered}
use Rattle.bounds_reader.proofs.Judged.{given_by, refused_by}
use Rattle.bounds_reader.proofs.reading.read_bounds.Goals as goal

pub returns-clause-bounds : goal.returns-clause-bounds
returns-clause-bounds c = given_by c.args.bytes.now c.parse.result
    (λ b e. subst (λ r. IfOk r (IsBounds c.args.bytes.now)) e c.parse.ensures.read)
    (λ x e. subst (λ r. IfErr r (IsAnswered c.args.bytes.now)) e c.parse.ensures.refused)

pub returns-clause-refusal : goal.returns-clause-refusal
returns-clause-refusal c = refused_by c.args.bytes.now c.parse.result
    (λ b e. subst (λ r. IfOk r (IsBounds c.args.bytes.now)) e c.parse.ensures.read)
    (λ x e. subst (λ r. IfErr r (IsAnswered c.args.bytes.now)) e c.parse.ensures.refused)
