-- The weight of a node, from itself and its children.
use Rattle.std.proofs.Common.{◌≡◌, ℕ, suc, ◌+◌, ◌*◌, ◌<◌, ◌≤◌, List, Some, None}
use Rattle.std.proofs.Common.{Bool, true, false, if◌then◌else◌, refl, sym, ap, ◌∙◌, subst, add-zero}
use Rattle.std.proofs.Common.{arith}
use Rattle.std.specs.Prelude.{sum}
use Rattle.std.proofs.lemmas.List.Sums.{sum_by-cons}
use Rattle.mpy_tree.specs.declared.limits.Limits.{Limits}
use Rattle.mpy_tree.specs.Trees as kind
use Rattle.mpy_tree.specs.Trees.{Kind}
use Rattle.choice_tree.specs.Costs.{sum_of}
use Rattle.choice_tree.specs.WeightedTrees.{Weighted, Weighteds, Others, plainly, pick, no_weighted}
use Rattle.choice_tree.specs.WeightedTrees.{weighted_and, no_others, other_and, children, listed}
use Rattle.choice_tree.specs.WeightedTrees.{other_trees, nodes, nodes_in}
use Rattle.tree_weights.specs.Functions.{Function, function, function_from, is_named}
use Rattle.tree_weights.specs.Nodes.{LoopForm, loop_weight, own_loop, root_weight, run_weight}
use Rattle.tree_weights.specs.RootTypes.{WeightedScope}
use Rattle.tree_weights.specs.Weights.{Bodies, parts_weight, statement_weight, weight, weights}
use Rattle.tree_weights.specs.Weights.{other_weights}

module _ (l : Limits) (σ : WeightedScope) (bodies : Bodies) where
  parts_sum : (ws : Weighteds) → sum (weights l σ bodies ws) ≡ sum_of (weight l σ bodies) (listed ws)
  parts_sum no_weighted = refl
  parts_sum (weighted_and w ws) =
      sum_by-cons (λ n. n) (weight l σ bodies w) (weights l σ bodies ws)
      ∙ ap (λ n. weight l σ bodies w + n) (parts_sum ws)

  others_sum : (os : Others)
      → other_weights l σ bodies os ≡ sum_of (weight l σ bodies) (other_trees os)
  others_sum no_others = refl
  others_sum (other_and rule cost w os) = ap (λ n. weight l σ bodies w + n) (others_sum os)

  parts_of_no_loop : (k : Kind) (ws : Weighteds) → own_loop (plainly k ws) ≡ None
      → parts_weight l (statement_weight l σ) k (weights l σ bodies ws)
      ≡ sum_of (weight l σ bodies) (listed ws)
  parts_of_no_loop (kind.While line) no_weighted h = parts_sum no_weighted
  parts_of_no_loop (kind.While line) (weighted_and w no_weighted) h =
      parts_sum (weighted_and w no_weighted)
  parts_of_no_loop (kind.While line) (weighted_and w (weighted_and v no_weighted)) h = cc
  parts_of_no_loop (kind.While line) (weighted_and w (weighted_and v (weighted_and u ws))) h =
      parts_sum (weighted_and w (weighted_and v (weighted_and u ws)))
  parts_of_no_loop (kind.For line x) no_weighted h = parts_sum no_weighted
  parts_of_no_loop (kind.For line x) (weighted_and w no_weighted) h =
      parts_sum (weighted_and w no_weighted)
  parts_of_no_loop (kind.For line x) (weighted_and w (weighted_and v no_weighted)) h = cc
  parts_of_no_loop (kind.For line x) (weighted_and w (weighted_and v (weighted_and u ws))) h =
      parts_sum (weighted_and w (weighted_and v (weighted_and u ws)))
  parts_of_no_loop _ ws h = parts_sum ws

  -- a node that is no loop
  pub weight_of_no_loop : (w : Weighted) → own_loop w ≡ None
      → weight l σ bodies w
      ≡ root_weight l σ w + run_weight bodies w + sum_of (weight l σ bodies) (children w)
  weight_of_no_loop (plainly k ws) h =
      ap (λ n. root_weight l σ (plainly k ws) + run_weight bodies (plainly k ws) + n)
      (parts_of_no_loop k ws h)
  weight_of_no_loop (pick number base os) h =
      let others = others_sum os in omega (arith, others)

  loop_of_node : (k : Kind) (ws : Weighteds) (r : LoopForm) → own_loop (plainly k ws) ≡ Some r
      → weight l σ bodies (plainly k ws)
      ≡ root_weight l σ (plainly k ws)
      + loop_weight l (statement_weight l σ) r.again (weight l σ bodies r.head)
      (weight l σ bodies r.body)
  loop_of_node (kind.While line) no_weighted r h = cc
  loop_of_node (kind.While line) (weighted_and t no_weighted) r h = cc
  loop_of_node (kind.While line) (weighted_and t (weighted_and b no_weighted)) r h =
      let same : record { head = t; again = true; body = b } ≡ r = cc in
      let s = statement_weight l σ in
      ap (λ n. n + loop_weight l s true (weight l σ bodies t) (weight l σ bodies b)) (add-zero s)
      ∙ ap (λ (q : LoopForm). s + loop_weight l s q.again (weight l σ bodies q.head)
      (weight l σ bodies q.body)) same
  loop_of_node (kind.While line) (weighted_and t (weighted_and b (weighted_and u ws))) r h = cc
  loop_of_node (kind.For line x) no_weighted r h = cc
  loop_of_node (kind.For line x) (weighted_and e no_weighted) r h = cc
  loop_of_node (kind.For line x) (weighted_and e (weighted_and b no_weighted)) r h =
      let same : record { head = e; again = false; body = b } ≡ r = cc in
      let s = statement_weight l σ in
      let turn = weight l σ bodies b in
      ap (λ n. n + (weight l σ bodies e + l.turns * (s + turn))) (add-zero s)
      ∙ ap (λ n. s + (weight l σ bodies e + l.turns * (n + turn))) (sym (add-zero s))
      ∙ ap (λ (q : LoopForm). s + loop_weight l s q.again (weight l σ bodies q.head)
      (weight l σ bodies q.body)) same
  loop_of_node (kind.For line x) (weighted_and e (weighted_and b (weighted_and u ws))) r h = cc
  loop_of_node _ ws r h = cc

  -- a loop
  pub weight_of_loop : (w : Weighted) (r : LoopForm) → own_loop w ≡ Some r
      → weight l σ bodies w
      ≡ root_weight l σ w
      + loop_weight l (statement_weight l σ) r.again (weight l σ bodies r.head)
      (weight l σ bodies r.body)
  weight_of_loop (plainly k ws) r h = loop_of_node k ws r h
  weight_of_loop (pick number base os) r h = cc

loop_node_smaller : (k : Kind) (ws : Weighteds) (r : LoopForm) → own_loop (plainly k ws) ≡ Some r
    → nodes r.head + nodes r.body < nodes (plainly k ws)
loop_node_smaller (kind.While line) no_weighted r h = cc
loop_node_smaller (kind.While line) (weighted_and t no_weighted) r h = cc
loop_node_smaller (kind.While line) (weighted_and t (weighted_and b no_weighted)) r h =
    let same : record { head = t; again = true; body = b } ≡ r = cc in
    subst (λ (q : LoopForm). nodes q.head + nodes q.body < suc (nodes t + (nodes b + 0))) same
    (omega arith)
loop_node_smaller (kind.While line) (weighted_and t (weighted_and b (weighted_and u ws))) r h = cc
loop_node_smaller (kind.For line x) no_weighted r h = cc
loop_node_smaller (kind.For line x) (weighted_and e no_weighted) r h = cc
loop_node_smaller (kind.For line x) (weighted_and e (weighted_and b no_weighted)) r h =
    let same : record { head = e; again = false; body = b } ≡ r = cc in
    subst (λ (q : LoopForm). nodes q.head + nodes q.body < suc (nodes e + (nodes b + 0))) same
    (omega arith)
loop_node_smaller (kind.For line x) (weighted_and e (weighted_and b (weighted_and u ws))) r h = cc
loop_node_smaller _ ws r h = cc

pub loop_smaller : (w : Weighted) (r : LoopForm) → own_loop w ≡ Some r
    → nodes r.head + nodes r.body < nodes w
loop_smaller (plainly k ws) r h = loop_node_smaller k ws r h
loop_smaller (pick number base os) r h = cc

-- a function has no more nodes than all
named_within : (b : Bool) (f : List ℕ) (n : ℕ) (w : Weighted) (ws : Weighteds) (g : Function)
    → (function_from ws f (n + 1) ≡ Some g → nodes g.tree ≤ nodes_in ws)
    → (if b then Some (function n w) else function_from ws f (n + 1)) ≡ Some g
    → nodes g.tree ≤ nodes w + nodes_in ws
named_within true f n w ws g rest e =
    let same : w ≡ g.tree = cc in
    subst (λ t. nodes t ≤ nodes w + nodes_in ws) same (omega arith)
named_within false f n w ws g rest e = let r = rest e in omega (arith, r)

pub function_within : (ws : Weighteds) (f : List ℕ) (n : ℕ) (g : Function)
    → function_from ws f n ≡ Some g → nodes g.tree ≤ nodes_in ws
function_within no_weighted f n g h = cc
function_within (weighted_and w ws) f n g h =
    named_within (is_named f w) f n w ws g (function_within ws f (n + 1) g) h
