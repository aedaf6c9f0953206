-- Picks as trees, and trees without picks.
use Rattle.std.specs.Prelude.{◌≡◌, map}
use Rattle.choice_tree.specs.declared.node.Pick.{Pick}
use Rattle.choice_tree.specs.WeightedTrees.{Weighted, pick, picks}
use Rattle.choice_tree.specs.WeightedViews.{weighted_of, members, member_seen}

abbrev pub tree_of_pick : Pick → Weighted
tree_of_pick p = pick p.number (weighted_of p.base.now) (members (map member_seen p.others.now))

abbrev pub HasNoPick : Weighted → Type 0
HasNoPick w = picks w ≡ 0
