-- The tree of a program has all of it, and the flat lists of its statements and nodes stand in the
-- tree's order.
use Rattle.std.specs.Prelude.{◌≡◌, ℕ, Bool, true, false, List, [], ◌∷◌, ◌++◌, map, if◌then◌else◌}
use Rattle.std.specs.List.{flat_map}
use Rattle.mpy_tree.specs.Syntax.{Term, Block, Routine}
use Rattle.mpy_tree.specs.Trees as kind
use Rattle.mpy_tree.specs.Trees.{Kind, Tree, Trees, node, no_trees, tree_and}
use Rattle.mpy_tree.specs.Shapes.{shape, block_shape, program_shape}
use Rattle.mpy_tree.specs.Sites.{nodes, sites, site_nodes, line_of}

pub record TreesDiffer : Type 0 where
  pub of_terms : (e f : Term) → shape e ≡ shape f → e ≡ f
  pub of_programs : (p q : List Routine) → program_shape p ≡ program_shape q → p ≡ q

-- a tree, and then those of its parts, in the order in which they are written
abbrev mutual
  pub subtrees : Tree → List Tree
  subtrees (node k ts) = node k ts ∷ all_subtrees ts

  pub all_subtrees : Trees → List Tree
  all_subtrees no_trees = []
  all_subtrees (tree_and t ts) = subtrees t ++ all_subtrees ts

-- the line of a statement, or of an arm of an `if`
abbrev pub kind_lines : Kind → List ℕ
kind_lines (kind.Assign line x) = line ∷ []
kind_lines (kind.Augment line x op) = line ∷ []
kind_lines (kind.Put line x) = line ∷ []
kind_lines (kind.AugmentAt line x op) = line ∷ []
kind_lines (kind.Append line x) = line ∷ []
kind_lines (kind.Print line) = line ∷ []
kind_lines (kind.Return line) = line ∷ []
kind_lines (kind.Pass line) = line ∷ []
kind_lines (kind.Break line) = line ∷ []
kind_lines (kind.Continue line) = line ∷ []
kind_lines (kind.If line) = line ∷ []
kind_lines (kind.Arm line) = line ∷ []
kind_lines (kind.While line) = line ∷ []
kind_lines (kind.For line x) = line ∷ []
kind_lines kind.Block = []
kind_lines (kind.Function line f params) = []
kind_lines kind.Program = []
kind_lines (kind.Int n) = []
kind_lines (kind.Bool b) = []
kind_lines (kind.Text cs) = []
kind_lines (kind.Name x) = []
kind_lines kind.List = []
kind_lines kind.Neg = []
kind_lines kind.Not = []
kind_lines (kind.Arith op) = []
kind_lines (kind.Cmp op) = []
kind_lines kind.And = []
kind_lines kind.Or = []
kind_lines kind.Cond = []
kind_lines kind.Index = []
kind_lines (kind.Slice from to) = []
kind_lines (kind.Call f) = []

abbrev pub lines_at : Tree → List ℕ
lines_at (node k ts) = kind_lines k

-- whether a node is one of an expression
abbrev pub is_term_kind : Kind → Bool
is_term_kind (kind.Int n) = true
is_term_kind (kind.Bool b) = true
is_term_kind (kind.Text cs) = true
is_term_kind (kind.Name x) = true
is_term_kind kind.List = true
is_term_kind kind.Neg = true
is_term_kind kind.Not = true
is_term_kind (kind.Arith op) = true
is_term_kind (kind.Cmp op) = true
is_term_kind kind.And = true
is_term_kind kind.Or = true
is_term_kind kind.Cond = true
is_term_kind kind.Index = true
is_term_kind (kind.Slice from to) = true
is_term_kind (kind.Call f) = true
is_term_kind (kind.Assign line x) = false
is_term_kind (kind.Augment line x op) = false
is_term_kind (kind.Put line x) = false
is_term_kind (kind.AugmentAt line x op) = false
is_term_kind (kind.Append line x) = false
is_term_kind (kind.Print line) = false
is_term_kind (kind.Return line) = false
is_term_kind (kind.Pass line) = false
is_term_kind (kind.Break line) = false
is_term_kind (kind.Continue line) = false
is_term_kind (kind.If line) = false
is_term_kind (kind.Arm line) = false
is_term_kind (kind.While line) = false
is_term_kind (kind.For line x) = false
is_term_kind kind.Block = false
is_term_kind (kind.Function line f params) = false
is_term_kind kind.Program = false

abbrev pub terms_at : Tree → List Tree
terms_at (node k ts) = if is_term_kind k then node k ts ∷ [] else []

pub record ListsFollowTheTrees : Type 0 where
  -- the nodes of an expression are its subtrees
  pub of_terms : (e : Term) → subtrees (shape e) ≡ map shape (nodes e)
  -- the nodes of the expressions of a body's statements are the subtrees of expressions
  pub of_bodies : (b : Block) →
      flat_map terms_at (subtrees (block_shape b)) ≡ map shape (flat_map site_nodes (sites b))
  -- the lines of a body's statements are those of its subtrees
  pub of_lines : (b : Block) →
      flat_map lines_at (subtrees (block_shape b)) ≡ map line_of (sites b)
