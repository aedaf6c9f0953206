use Rattle.sat_plain.proofs.Growth.{grows_on}
use Rattle.sat_plain.proofs.search.Search.first_conflict.Goals as goal

pub returns-clause-grows : goal.returns-clause-grows
returns-clause-grows c = grows_on c.args.self.now c.visit_all.new.self c.next_conflict.new.self c.in_default.ensures.grows c.next_conflict.ensures.grows
