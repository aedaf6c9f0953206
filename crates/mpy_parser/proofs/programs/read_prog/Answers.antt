use Rattle.std.proofs.Common.{IfOk, IfErr, subst}
use Rattle.mpy_tree.specs.View.{routines_of}
use Rattle.mpy_parser.specs.Programs.{IsProgram, IsAnswered}
use Rattle.mpy_parser.proofs.Steps.{given_by, refused_by}
use Rattle.mpy_parser.proofs.programs.read_prog.Goals as goal

pub returns-clause-program : goal.returns-clause-program
returns-clause-program c = given_by c.args.bytes.now c.parse.result
    (λ p e. subst (λ r. IfOk r (λ q. IsProgram c.args.bytes.now (routines_of q))) e c.parse.ensures.read)
    (λ x e. subst (λ r. IfErr r (IsAnswered c.args.bytes.now)) e c.parse.ensures.refused)

pub returns-clause-refusal : goal.returns-clause-refusal
returns-clause-refusal c = refused_by c.args.bytes.now c.parse.result
    (λ p e. subst (λ r. IfOk r (λ q. IsProgram c.args.bytes.now (routines_of q))) e c.parse.ensures.read)
    (λ x e. subst (λ r. IfErr r (IsAnswered c.args.bytes.now)) e c.parse.ensures.refused)
