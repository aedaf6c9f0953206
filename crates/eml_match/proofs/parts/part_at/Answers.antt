use Rattle.std.proofs.Common.{None, Some}
use Rattle.eml_match.proofs.Places.{expr_at}
use Rattle.eml_match.proofs.parts.part_at.Goals as goal

pub returns-in-None-clause-part : goal.returns-in-None-clause-part
returns-in-None-clause-part c = expr_at c.args.es.now c.args.i None c.in-None.ensures.part

pub returns-in-Some-clause-part : goal.returns-in-Some-clause-part
returns-in-Some-clause-part c =
    expr_at c.args.es.now c.args.i (Some c.in-Some.e.now) c.in-Some.ensures.part
