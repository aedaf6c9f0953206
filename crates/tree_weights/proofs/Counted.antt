-- How many members besides the base the code's list has.
use Rattle.std.proofs.Common.{◌≡◌, ◌∙◌, List, length, map}
use Rattle.std.proofs.lemmas.List.{length-map}
use Rattle.choice_tree.specs.declared.tree.Other.{Other}
use Rattle.choice_tree.specs.Selections.{count_others}
use Rattle.choice_tree.specs.WeightedViews.{member_seen, members}
use Rattle.choice_tree.proofs.FittingLaws.{counted}

pub counted_others : (os : List Other) → count_others (members (map member_seen os)) ≡ length os
counted_others os = counted (map member_seen os) ∙ length-map os member_seen
