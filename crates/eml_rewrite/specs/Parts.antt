-- The weighted trees of the parts of a node.
use Rattle.mpy_tree.specs.Trees.{Tree, node}
use Rattle.choice_tree.specs.Contexts.{Setting, Context}
use Rattle.choice_tree.specs.Drafts.{Draft, as_is, again}
use Rattle.choice_tree.specs.Rewriting.{written_all}
use Rattle.choice_tree.specs.WeightedTrees.{Weighteds, no_weighted, lifted_all}
use Rattle.choice_tree.specs.Growing.{Growing, parts_grown, drafts_grown}

-- as they are written where they stand
abbrev pub written_parts : Setting → Context → Tree → Weighteds
written_parts g c (node k ts) = lifted_all (written_all g ts k 0 c)

-- where the node stays
abbrev pub kept_parts : Setting → Growing → Context → Tree → Weighteds
kept_parts g grow c (node k ts) = parts_grown g grow ts k 0 c

-- of the node of a resolution
abbrev pub draft_parts_grown : Setting → Growing → Context → Draft → Weighteds
draft_parts_grown g grow c (as_is k ds) = drafts_grown g grow ds k 0 c
draft_parts_grown g grow c (again t) = no_weighted
