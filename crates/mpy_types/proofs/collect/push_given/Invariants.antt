use Rattle.std.proofs.Common.{◌≡◌, ◌++◌, map, drop}
use Rattle.std.specs.List.{flat_map}
use Rattle.mpy_tree.specs.View.{routine_of}
use Rattle.mpy_tree.specs.Flows.{given_flows}
use Rattle.mpy_types.specs.Inflows.{flow_inflows}
use Rattle.mpy_types.proofs.collect.push_given.Given as goal

abbrev pub invariant-loop-k : goal.invariant-loop-k
invariant-loop-k l =
    l.fn.out.items ++ flat_map (flow_inflows (map routine_of l.scopes.funcs.now)) (given_flows l.g.number l.g.func.now.params l.types)
    ≡ l.out.items ++ flat_map (flow_inflows (map routine_of l.scopes.funcs.now)) (given_flows l.g.number (drop l.k l.g.func.now.params) (drop l.k l.types))
