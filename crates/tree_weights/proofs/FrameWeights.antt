-- What is left of a number behind the nodes of a function.
use Rattle.std.proofs.Common.{◌≡◌, ℕ, suc, ◌+◌, ◌-◌, ◌*◌, ◌<◌, ◌≤◌, List, Some, None, sym, ap, ◌∙◌}
use Rattle.std.proofs.Common.{arith}
use Rattle.std.proofs.Math.Nat.{suc-mul}
use Rattle.choice_tree.specs.Costs.{sum_of}
use Rattle.choice_tree.specs.StatementViews.{weighted_func}
use Rattle.choice_tree.specs.WeightedTrees.{Weighted, children, nodes, nodes_in}
use Rattle.tree_weights.specs.declared.frame.Frame.{Frame}
use Rattle.tree_weights.specs.declared.program.Found.{Found}
use Rattle.tree_weights.specs.declared.program.TypedProgram.{TypedProgram}
use Rattle.tree_weights.specs.Frames.{bodies_of, loop_in, nodes_of, root_in, scope_of, weight_in}
use Rattle.tree_weights.specs.Functions.{function_of}
use Rattle.tree_weights.specs.Nodes.{LoopForm, loop_weight, own_loop, run_weight}
use Rattle.tree_weights.specs.Views.{found_seen, functions_in, scope_in}
use Rattle.tree_weights.specs.Weights.{function_weight, levels_weight, weight}
use Rattle.tree_weights.proofs.NodeWeights.{function_within, weight_of_loop, weight_of_no_loop}
use Rattle.tree_weights.proofs.Spans.{reach, span}

-- behind a node that is no loop: itself, the body that it runs, and its children
pub no_loop_left : (f : Frame) (w : Weighted) (left node own call run rest : ℕ)
    → node ≡ root_in f w → own ≡ left - node → run_weight (bodies_of f) w ≡ call → run ≡ own - call
    → rest ≡ run - sum_of (weight_in f) (children w) → None ≡ own_loop w
    → rest ≡ left - weight_in f w
no_loop_left f w left node own call run rest is first called second third none =
    let whole : weight_in f w
    ≡ root_in f w + run_weight (bodies_of f) w + sum_of (weight_in f) (children w) =
    weight_of_no_loop f.program.limits.now (scope_of f) (bodies_of f) w (sym none) in
    omega (arith, whole)

-- behind a loop: itself, and its parts
pub loop_left : (f : Frame) (w : Weighted) (r : LoopForm) (left node own rest : ℕ)
    → node ≡ root_in f w → own ≡ left - node → rest ≡ own - loop_in f r → Some r ≡ own_loop w
    → rest ≡ left - weight_in f w
loop_left f w r left node own rest is first second found =
    let whole : weight_in f w ≡ root_in f w + loop_in f r =
    weight_of_loop f.program.limits.now (scope_of f) (bodies_of f) w r (sym found)
    ∙ ap (λ s. root_in f w + loop_weight f.program.limits.now s r.again (weight_in f r.head)
    (weight_in f r.body)) (sym f.step_is) in
    omega (arith, whole)

-- the body of a function, where it is entered one level deeper
pub entered : (p : TypedProgram) (f : List ℕ) (levels : ℕ) (g : Found) (inner : Frame)
    → inner.program ≡ p → inner.number ≡ g.number → levels ≡ suc inner.levels
    → Some (found_seen g) ≡ function_of (functions_in p) f
    → weight_in inner (weighted_func g.func.now)
    ≡ levels_weight p.limits.now p.facts.facts.now (functions_in p) p.entry levels f
entered p f levels g inner same number deeper found =
    (λ i. weight (same i).limits.now (scope_in (same i) (number i))
    (levels_weight (same i).limits.now (same i).facts.facts.now (functions_in (same i))
    (same i).entry inner.levels) (weighted_func g.func.now))
    ∙ ap (function_weight p.limits.now p.facts.facts.now (functions_in p) p.entry
    (levels_weight p.limits.now p.facts.facts.now (functions_in p) p.entry inner.levels)) found
    ∙ ap (λ n. levels_weight p.limits.now p.facts.facts.now (functions_in p) p.entry n f)
    (sym deeper)

-- a function that was found has no more nodes than all
pub found_within : (f : Frame) (x : List ℕ) (g : Found)
    → Some (found_seen g) ≡ function_of (functions_in f.program) x
    → nodes (weighted_func g.func.now) ≤ nodes_of f
found_within f x g e = function_within (functions_in f.program) x 0 (found_seen g) (sym e)

-- a walk over a function, one level deeper, is within what is left
pub level_below : (f inner : Frame) (steps : ℕ) → inner.program ≡ f.program
    → f.levels ≡ suc inner.levels → steps < span f → reach inner steps < reach f 0
level_below f inner steps same deeper less =
    let spans : span inner ≡ span f =
    ap (λ (p : TypedProgram). 4 * nodes_in (functions_in p) + 4)
    same in
    let first : inner.levels * span inner ≡ inner.levels * span f =
    ap (λ n. inner.levels * n) spans in
    let one : suc inner.levels * span f ≡ inner.levels * span f + span f =
    suc-mul inner.levels (span f) in
    let all : f.levels * span f ≡ suc inner.levels * span f = ap (λ n. n * span f) deeper in
    omega (arith, first, one, all, less)

pub same_nodes : (f inner : Frame) → inner.program ≡ f.program → nodes_of inner ≡ nodes_of f
same_nodes f inner same =
    ap (λ (p : TypedProgram). nodes_in (functions_in p)) same
