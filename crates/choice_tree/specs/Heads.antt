-- What stands at a node of an expression, its parts aside; and how many parts it has.
use Rattle.std.specs.Prelude.{◌≡◌, ⊤, ℕ, ◌+◌, Bool, if◌then◌else◌, List, [], ◌∷◌}
use Rattle.mpy_tree.specs.Trees as kind
use Rattle.mpy_tree.specs.Trees.{Kind, Tree, Trees, node, no_trees, tree_and}
use Rattle.choice_tree.specs.declared.head.Head.{Head}
use Rattle.choice_tree.specs.declared.head.Head.TheVariants as head

abbrev pub head_kind : Head → Kind
head_kind (head.Int n) = kind.Int n
head_kind (head.Bool b) = kind.Bool b
head_kind (head.Text t) = kind.Text t.now
head_kind (head.Name x) = kind.Name x.now
head_kind head.List = kind.List
head_kind head.Neg = kind.Neg
head_kind head.Not = kind.Not
head_kind (head.Arith op) = kind.Arith op
head_kind (head.Cmp op) = kind.Cmp op
head_kind head.And = kind.And
head_kind head.Or = kind.Or
head_kind head.Cond = kind.Cond
head_kind head.Index = kind.Index
head_kind (head.Slice from to) = kind.Slice from to
head_kind (head.Call f) = kind.Call f.now

-- an end of a slice
abbrev pub one_if : Bool → ℕ
one_if there = if there then 1 else 0

-- a node of this kind has so many parts; a statement is no node of an expression
abbrev pub HasParts : Kind → ℕ → Type 0
HasParts (kind.Int n) count = count ≡ 0
HasParts (kind.Bool b) count = count ≡ 0
HasParts (kind.Text cs) count = count ≡ 0
HasParts (kind.Name x) count = count ≡ 0
HasParts kind.List count = ⊤
HasParts kind.Neg count = count ≡ 1
HasParts kind.Not count = count ≡ 1
HasParts (kind.Arith op) count = count ≡ 2
HasParts (kind.Cmp op) count = count ≡ 2
HasParts kind.And count = count ≡ 2
HasParts kind.Or count = count ≡ 2
HasParts kind.Cond count = count ≡ 3
HasParts kind.Index count = count ≡ 2
HasParts (kind.Slice from to) count = count ≡ 1 + one_if from + one_if to
HasParts (kind.Call f) count = ⊤
HasParts _ count = ⊥

-- the kind of the root of a tree
abbrev pub root : Tree → Kind
root (node k ts) = k

abbrev pub trees : List Tree → Trees
trees [] = no_trees
trees (t ∷ ts) = tree_and t (trees ts)
