-- What stands at the root of a weighted expression.
use Rattle.std.specs.Prelude.{◌≡◌, length, Some}
use Rattle.mpy_tree.specs.Trees.{Kind}
use Rattle.choice_tree.specs.Heads.{HasParts, head_kind}
use Rattle.choice_tree.specs.WeightedTrees.{Weighted, children}
use Rattle.sym_nodes.specs.declared.nodes.Root.{Root}
use Rattle.sym_nodes.specs.declared.nodes.Root.TheVariants as root
use Rattle.sym_nodes.specs.Plain.{kind_of, number_of}

-- a node with its parts, or a pick with its number
pub record IsNodeAt (w : Weighted) (k : Kind) : Type 0 where
  pub kind : Some k ≡ kind_of w
  pub parts : HasParts k (length (children w))

abbrev pub IsRootOf : Root → Weighted → Type 0
IsRootOf (root.Node head) w = IsNodeAt w (head_kind head)
IsRootOf (root.Pick number) w = Some number ≡ number_of w
