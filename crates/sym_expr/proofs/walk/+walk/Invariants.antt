use Rattle.std.proofs.Common.{◌≡◌, ◌+◌, ◌-◌, ◌*◌, ◌≤◌, ℕ, Bool, List, map, take, length}
use Rattle.mpy_tree.specs.Expressions.{Calls, value_of}
use Rattle.mpy_tree.specs.Values.{Locals}
use Rattle.bit_words.specs.Logic.{Extends}
use Rattle.choice_tree.specs.WeightedTrees.{children, nodes}
use Rattle.choice_tree.specs.WeightedViews.{weighted_of}
use Rattle.sym_nodes.specs.Environments.{PicksRead, StateReads}
use Rattle.sym_nodes.specs.Operands.{ArePartsIn, types_of}
use Rattle.sym_nodes.specs.Plain.{AllReadAsPlain, type_of}
use Rattle.sym_nodes.specs.Views.{env_of}
use Rattle.sym_expr.specs.Signatures.{scope_at}
use Rattle.sym_expr.proofs.walk.+walk.Given as goal

abbrev pub decreases-eval : goal.decreases-eval
decreases-eval g l = 4 * nodes (weighted_of l.e.now) + 3

abbrev pub decreases-eval_sides : goal.decreases-eval_sides
decreases-eval_sides g l = 4 * nodes (weighted_of l.e.now) + 2

abbrev pub decreases-eval_cond : goal.decreases-eval_cond
decreases-eval_cond g l = 4 * nodes (weighted_of l.e.now) + 2

abbrev pub decreases-eval_pick : goal.decreases-eval_pick
decreases-eval_pick g l = 4 * nodes (weighted_of l.e.now) + 2

abbrev pub decreases-eval_whole : goal.decreases-eval_whole
decreases-eval_whole g l = 4 * nodes (weighted_of l.e.now) + 1

abbrev pub decreases-eval_child : goal.decreases-eval_child
decreases-eval_child g l = 4 * nodes (weighted_of l.e.now)

abbrev pub decreases-eval_children : goal.decreases-eval_children
decreases-eval_children g l = 4 * nodes (weighted_of l.e.now)

-- the outcomes so far are those of the children so far
abbrev pub invariant-eval_children-parts : goal.invariant-eval_children-parts
invariant-eval_children-parts g l =
    let reads = g.L.Logic.reads in
    let env = env_of l.fn.view in
    let done = take l.i (children (weighted_of l.fn.e)) in
    record {
      extends : Extends g.L.Logic.owns reads g.L.Logic.count l.fn.g l.g;
      within : l.i ≤ length (children (weighted_of l.fn.e));
      made : ArePartsIn g.L.Logic.owns l.g env.limits l.made.items;
      types : types_of l.made.items ≡ map (type_of (scope_at (g.C.Functions.signatures l.fn.functions) env)) done;
      value : (vs : List Bool) (s : Locals) (m : ℕ → ℕ) (calls : Calls) (line : ℕ) → g.C.Functions.are_calls l.fn.functions env.limits m calls
          → StateReads (reads l.fn.g vs) env s → PicksRead (reads l.fn.g vs) env.picks m
          → AllReadAsPlain (reads l.g vs) (value_of env.limits calls s line) m l.made.items done;
    }

abbrev pub decreases-eval_children-parts : goal.decreases-eval_children-parts
decreases-eval_children-parts g l = length (children (weighted_of l.fn.e)) - l.i
