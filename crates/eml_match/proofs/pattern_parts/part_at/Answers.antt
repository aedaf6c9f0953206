use Rattle.std.proofs.Common.{None, Some}
use Rattle.eml_match.proofs.Places.{pattern_at}
use Rattle.eml_match.proofs.pattern_parts.part_at.Goals as goal

pub returns-in-None-clause-part : goal.returns-in-None-clause-part
returns-in-None-clause-part c = pattern_at c.args.es.now c.args.i None c.in-None.ensures.part

pub returns-in-Some-clause-part : goal.returns-in-Some-clause-part
returns-in-Some-clause-part c =
    pattern_at c.args.es.now c.args.i (Some c.in-Some.e.now) c.in-Some.ensures.part
