-- Weighted trees: trees in which a pick stands for any one of its members.
use Rattle.std.specs.Prelude.{ℕ, suc, ◌+◌, if◌then◌else◌, List, [], ◌∷◌}
use Rattle.mpy_tree.specs.Trees.{Kind, Tree, Trees, node, no_trees, tree_and}
use Rattle.choice_tree.specs.Matching.{is_expression}

mutual
  -- a node; or a pick with its number, its base, which costs nothing, and its other members
  pub data Weighted : Type 0 where
    plainly : (k : Kind) (ws : Weighteds) → Weighted
    pick : (number : ℕ) (base : Weighted) (others : Others) → Weighted

  pub data Weighteds : Type 0 where
    no_weighted : Weighteds
    weighted_and : (w : Weighted) (ws : Weighteds) → Weighteds

  -- members, each by a rule at a cost
  pub data Others : Type 0 where
    no_others : Others
    other_and : (rule cost : ℕ) (w : Weighted) (os : Others) → Others

-- the children of a node: its parts, or of a pick its base and then the trees of its other members
abbrev pub listed : Weighteds → List Weighted
listed no_weighted = []
listed (weighted_and w ws) = w ∷ listed ws

abbrev pub other_trees : Others → List Weighted
other_trees no_others = []
other_trees (other_and rule cost w os) = w ∷ other_trees os

abbrev pub children : Weighted → List Weighted
children (plainly k ws) = listed ws
children (pick number base os) = base ∷ other_trees os

-- a tree without picks
abbrev mutual
  pub lifted : Tree → Weighted
  lifted (node k ts) = plainly k (lifted_all ts)

  pub lifted_all : Trees → Weighteds
  lifted_all no_trees = no_weighted
  lifted_all (tree_and t ts) = weighted_and (lifted t) (lifted_all ts)

-- the tree of bases
abbrev mutual
  pub base_of : Weighted → Tree
  base_of (plainly k ws) = node k (bases_of ws)
  base_of (pick number base os) = base_of base

  pub bases_of : Weighteds → Trees
  bases_of no_weighted = no_trees
  bases_of (weighted_and w ws) = tree_and (base_of w) (bases_of ws)

-- how many expression nodes there are, each pick among them
abbrev pub node_size : Kind → ℕ
node_size k = if is_expression k then 1 else 0

abbrev mutual
  pub size : Weighted → ℕ
  size (plainly k ws) = node_size k + sizes ws
  size (pick number base os) = 1 + (size base + other_sizes os)

  pub sizes : Weighteds → ℕ
  sizes no_weighted = 0
  sizes (weighted_and w ws) = size w + sizes ws

  pub other_sizes : Others → ℕ
  other_sizes no_others = 0
  other_sizes (other_and rule cost w os) = size w + other_sizes os

-- how many nodes there are, statements and picks among them
abbrev mutual
  pub nodes : Weighted → ℕ
  nodes (plainly k ws) = suc (nodes_in ws)
  nodes (pick number base os) = suc (nodes base + nodes_in_others os)

  pub nodes_in : Weighteds → ℕ
  nodes_in no_weighted = 0
  nodes_in (weighted_and w ws) = nodes w + nodes_in ws

  pub nodes_in_others : Others → ℕ
  nodes_in_others no_others = 0
  nodes_in_others (other_and rule cost w os) = nodes w + nodes_in_others os

-- how many picks there are
abbrev mutual
  pub picks : Weighted → ℕ
  picks (plainly k ws) = picks_in ws
  picks (pick number base os) = suc (picks base + picks_in_others os)

  pub picks_in : Weighteds → ℕ
  picks_in no_weighted = 0
  picks_in (weighted_and w ws) = picks w + picks_in ws

  pub picks_in_others : Others → ℕ
  picks_in_others no_others = 0
  picks_in_others (other_and rule cost w os) = picks w + picks_in_others os

-- the picks numbered from a number on: a pick before its base, the base before the other members
abbrev mutual
  pub numbered : Weighted → ℕ → Weighted
  numbered (plainly k ws) from = plainly k (numbered_all ws from)
  numbered (pick number base os) from =
      pick from (numbered base (suc from)) (numbered_others os (suc from + picks base))

  pub numbered_all : Weighteds → ℕ → Weighteds
  numbered_all no_weighted from = no_weighted
  numbered_all (weighted_and w ws) from =
      weighted_and (numbered w from) (numbered_all ws (from + picks w))

  pub numbered_others : Others → ℕ → Others
  numbered_others no_others from = no_others
  numbered_others (other_and rule cost w os) from =
      other_and rule cost (numbered w from) (numbered_others os (from + picks w))
