-- What a function weighs whose calls may go so many levels deeper.
use Rattle.std.specs.Prelude.{ℕ}
use Rattle.choice_tree.specs.WeightedTrees.{Weighted, nodes_in}
use Rattle.tree_weights.specs.Nodes.{LoopForm, loop_weight, root_weight}
use Rattle.tree_weights.specs.RootTypes.{WeightedScope}
use Rattle.tree_weights.specs.Views.{functions_in, scope_in}
use Rattle.tree_weights.specs.Weights.{Bodies, levels_weight, weight}
use Rattle.tree_weights.specs.declared.frame.Frame.{Frame}

abbrev pub scope_of : Frame → WeightedScope
scope_of f = scope_in f.program f.number

-- what the functions weigh that are called there
abbrev pub bodies_of : Frame → Bodies
bodies_of f =
    levels_weight f.program.limits.now f.program.facts.facts.now (functions_in f.program)
    f.program.entry f.levels

abbrev pub weight_in : Frame → Weighted → ℕ
weight_in f w = weight f.program.limits.now (scope_of f) (bodies_of f) w

-- a node itself
abbrev pub root_in : Frame → Weighted → ℕ
root_in f w = root_weight f.program.limits.now (scope_of f) w

-- the parts of a loop
abbrev pub loop_in : Frame → LoopForm → ℕ
loop_in f r =
    loop_weight f.program.limits.now f.step r.again (weight_in f r.head) (weight_in f r.body)

-- how many nodes all functions have
abbrev pub nodes_of : Frame → ℕ
nodes_of f = nodes_in (functions_in f.program)
