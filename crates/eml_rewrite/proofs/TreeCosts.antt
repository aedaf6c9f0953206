-- The costs of trees, against their sizes. A root that is an expression is one node more than the
-- members below it need.
use Rattle.std.proofs.Common.{◌≡◌, ℕ, suc, ◌+◌, ◌*◌, ◌≤◌, Bool, true, false, if◌then◌else◌, refl, ap}
use Rattle.std.proofs.Common.{arith}
use Rattle.std.proofs.Math.Nat.{mul-add, mul-le-mul_left}
use Rattle.mpy_tree.specs.Trees.{Kind, Tree, Trees, node, no_trees, tree_and}
use Rattle.choice_tree.specs.Costs.{all_costs, all_costs_in, all_other_costs}
use Rattle.choice_tree.specs.Matching.{is_expression}
use Rattle.choice_tree.specs.Typing.{copy_of}
use Rattle.choice_tree.specs.WeightedTrees.{Weighted, Weighteds, Others, plainly, pick, no_weighted}
use Rattle.choice_tree.specs.WeightedTrees.{weighted_and, no_others, other_and, lifted, lifted_all}
use Rattle.choice_tree.specs.WeightedTrees.{node_size, size, sizes, other_sizes, picks, numbered}
use Rattle.choice_tree.specs.WeightedTrees.{numbered_all, numbered_others}

-- numbers change neither costs nor sizes
mutual
  pub costs_numbered : (w : Weighted) (from : ℕ) → all_costs (numbered w from) ≡ all_costs w
  costs_numbered (plainly k ws) from = costs_numbered_in ws from
  costs_numbered (pick number base os) from =
      λ i. costs_numbered base (suc from) i + costs_numbered_others os (suc from + picks base) i

  costs_numbered_in : (ws : Weighteds) (from : ℕ)
      → all_costs_in (numbered_all ws from) ≡ all_costs_in ws
  costs_numbered_in no_weighted from = refl
  costs_numbered_in (weighted_and w ws) from =
      λ i. costs_numbered w from i + costs_numbered_in ws (from + picks w) i

  costs_numbered_others : (os : Others) (from : ℕ)
      → all_other_costs (numbered_others os from) ≡ all_other_costs os
  costs_numbered_others no_others from = refl
  costs_numbered_others (other_and rule cost w os) from =
      λ i. cost + costs_numbered w from i + costs_numbered_others os (from + picks w) i

mutual
  pub size_numbered : (w : Weighted) (from : ℕ) → size (numbered w from) ≡ size w
  size_numbered (plainly k ws) from = ap (λ n. node_size k + n) (sizes_numbered ws from)
  size_numbered (pick number base os) from =
      λ i. 1 + (size_numbered base (suc from) i
      + other_sizes_numbered os (suc from + picks base) i)

  sizes_numbered : (ws : Weighteds) (from : ℕ) → sizes (numbered_all ws from) ≡ sizes ws
  sizes_numbered no_weighted from = refl
  sizes_numbered (weighted_and w ws) from =
      λ i. size_numbered w from i + sizes_numbered ws (from + picks w) i

  other_sizes_numbered : (os : Others) (from : ℕ)
      → other_sizes (numbered_others os from) ≡ other_sizes os
  other_sizes_numbered no_others from = refl
  other_sizes_numbered (other_and rule cost w os) from =
      λ i. size_numbered w from i + other_sizes_numbered os (from + picks w) i

-- a tree without picks costs nothing
mutual
  free : (t : Tree) → all_costs (lifted t) ≡ 0
  free (node k ts) = all_free ts

  all_free : (ts : Trees) → all_costs_in (lifted_all ts) ≡ 0
  all_free no_trees = refl
  all_free (tree_and t ts) = let a = free t in let r = all_free ts in omega arith

-- The costs are no more than n for each node; so many nodes aren't needed.
pub record Cheap (n spare : ℕ) (w : Weighted) : Type 0 where
  pub costs : all_costs w + n * spare ≤ n * size w

pub record AllCheap (n : ℕ) (ws : Weighteds) : Type 0 where
  pub costs : all_costs_in ws ≤ n * sizes ws

pub record OthersCheap (n : ℕ) (os : Others) : Type 0 where
  pub costs : all_other_costs os ≤ n * other_sizes os

-- the nodes that a tree has at its root
abbrev pub root_size : Tree → ℕ
root_size (node k ts) = node_size k

pub small_root : (k : Kind) → node_size k ≤ 1
small_root k = by_test (is_expression k)
  where
    by_test : (b : Bool) → (if b then 1 else 0) ≤ 1
    by_test true = omega arith
    by_test false = omega arith

-- trees that cost nothing
pub free_cheap : (n spare : ℕ) (t : Tree) → spare ≤ size (lifted t) → Cheap n spare (lifted t)
free_cheap n spare t h =
    let none = free t in
    let room : n * spare ≤ n * size (lifted t) = mul-le-mul_left n h in
    record { costs = omega (arith, none, room) }

pub copy_cheap : (n : ℕ) (k : Kind) (t : Tree) → Cheap n (node_size k) (lifted (copy_of t))
copy_cheap n k t =
    let h = small_root k in free_cheap n (node_size k) (copy_of t) (omega arith)

-- no parts, and one more
pub none_cheap : (n : ℕ) → AllCheap n no_weighted
none_cheap n = record { costs = omega arith }

pub part_cheap : (n spare : ℕ) (w : Weighted) (ws : Weighteds) → Cheap n spare w → AllCheap n ws
    → AllCheap n (weighted_and w ws)
part_cheap n spare w ws a b =
    let first = a.costs in
    let rest = b.costs in
    let both : n * (size w + sizes ws) ≡ n * size w + n * sizes ws = mul-add n (size w) (sizes ws) in
    record { costs = omega (arith, first, rest, both) }

-- a node with its parts
pub node_cheap : (n : ℕ) (k : Kind) (ws : Weighteds) → AllCheap n ws
    → Cheap n (node_size k) (plainly k ws)
node_cheap n k ws a =
    let parts = a.costs in
    let both : n * (node_size k + sizes ws) ≡ n * node_size k + n * sizes ws =
    mul-add n (node_size k) (sizes ws) in
    record { costs = omega (arith, parts, both) }

-- no members, and one more, whose cost the root of its tree carries
pub no_member_cheap : (n : ℕ) → OthersCheap n no_others
no_member_cheap n = record { costs = omega arith }

pub member_cheap : (n rule cost : ℕ) (w : Weighted) (os : Others) → cost ≤ n → Cheap n 1 w
    → OthersCheap n os → OthersCheap n (other_and rule cost w os)
member_cheap n rule cost w os h a b =
    let first = a.costs in
    let rest = b.costs in
    let one : n * 1 ≡ n = omega arith in
    let both : n * (size w + other_sizes os) ≡ n * size w + n * other_sizes os =
    mul-add n (size w) (other_sizes os) in
    record { costs = omega (arith, first, rest, one, both, h) }

pub pick_cheap : (n spare number : ℕ) (base : Weighted) (os : Others) → Cheap n spare base
    → OthersCheap n os → Cheap n spare (pick number base os)
pick_cheap n spare number base os a b =
    let first = a.costs in
    let rest = b.costs in
    let both : n * (size base + other_sizes os) ≡ n * size base + n * other_sizes os =
    mul-add n (size base) (other_sizes os) in
    let whole : n * (1 + (size base + other_sizes os)) ≡ n * 1 + n * (size base + other_sizes os) =
    mul-add n 1 (size base + other_sizes os) in
    record { costs = omega (arith, first, rest, both, whole) }

-- the costs are no more than n for each node
pub cheap_is : (n spare : ℕ) (w : Weighted) → Cheap n spare w → all_costs w ≤ n * size w
cheap_is n spare w a = let h = a.costs in omega (arith, h)
