-- What is deeper than a limit.
use Rattle.std.proofs.Common.{◌≡◌, ℕ, ◌+◌, ◌-◌, ◌<◌, max, nat_lt, false, ◌||◌, arith}
use Rattle.std.proofs.lemmas.Bool.Decides.{nat_tests}
use Rattle.mpy_tree.specs.Syntax.{MaybeTerm, no_term, a_term}
use Rattle.mpy_tree.specs.Trees.{Trees, no_trees, most_depth}
use Rattle.mpy_tree.specs.Shapes.{shape_and}

pub leaf_depth : (limit : ℕ) → 0 < limit → nat_lt limit 1 ≡ false
leaf_depth limit h = grind (arith, nat_tests)

pub node_depth : (limit n : ℕ) → 0 < limit → nat_lt limit (1 + n) ≡ nat_lt (limit - 1) n
node_depth limit n h = grind (arith, nat_tests)

pub max_depth : (limit m n : ℕ) → nat_lt limit (max m n) ≡ (nat_lt limit m || nat_lt limit n)
max_depth limit m n = grind (arith, nat_tests)

pub node_depth_of_one : (limit m : ℕ) → 0 < limit → nat_lt limit (1 + max m 0) ≡ nat_lt (limit - 1) m
node_depth_of_one limit m h = grind (arith, nat_tests)

pub node_depth_of_two : (limit m n : ℕ) → 0 < limit → nat_lt limit (1 + max m (max n 0)) ≡ (nat_lt (limit - 1) m || nat_lt (limit - 1) n)
node_depth_of_two limit m n h = grind (arith, nat_tests)

pub node_depth_of_three : (limit l m n : ℕ) → 0 < limit → nat_lt limit (1 + max l (max m (max n 0))) ≡ (nat_lt (limit - 1) l || nat_lt (limit - 1) m || nat_lt (limit - 1) n)
node_depth_of_three limit l m n h = grind (arith, nat_tests)

end_depth : (o : MaybeTerm) (ts : Trees) → most_depth (shape_and o ts) ≡ max (most_depth (shape_and o no_trees)) (most_depth ts)
end_depth no_term ts = omega arith
end_depth (a_term e) ts = omega arith

three : (limit l m n : ℕ) → 0 < limit → nat_lt limit (1 + max l (max m n)) ≡ (nat_lt (limit - 1) l || nat_lt (limit - 1) m || nat_lt (limit - 1) n)
three limit l m n h = grind (arith, nat_tests)

-- a slice
pub slice_depth : (limit m : ℕ) (from to : MaybeTerm) → 0 < limit
    → nat_lt limit (1 + max m (most_depth (shape_and from (shape_and to no_trees))))
    ≡ (nat_lt (limit - 1) m || nat_lt (limit - 1) (most_depth (shape_and from no_trees)) || nat_lt (limit - 1) (most_depth (shape_and to no_trees)))
slice_depth limit m from to h =
    let ends = end_depth from (shape_and to no_trees) in
    rw ends (three limit m (most_depth (shape_and from no_trees)) (most_depth (shape_and to no_trees)) h)

pub ruleset depths = (leaf_depth, node_depth, node_depth_of_one, node_depth_of_two, node_depth_of_three, slice_depth)
