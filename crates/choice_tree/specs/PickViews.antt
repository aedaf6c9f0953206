-- The members of a pick besides its base, as mathematics.
use Rattle.std.specs.Prelude.{List, map}
use Rattle.choice_tree.specs.declared.node.Pick.{Pick}
use Rattle.choice_tree.specs.WeightedViews.{Member, member_seen}

abbrev pub others_seen : Pick → List Member
others_seen p = map member_seen p.others.now
