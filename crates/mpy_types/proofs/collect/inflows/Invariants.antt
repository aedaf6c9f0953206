use Rattle.std.proofs.Common.{◌≡◌, ◌++◌, map, drop}
use Rattle.std.specs.List.{flat_map}
use Rattle.mpy_tree.specs.View.{routine_of}
use Rattle.mpy_tree.specs.Entries.{entry_of}
use Rattle.mpy_tree.specs.Flows.{flows, flows_from}
use Rattle.mpy_types.specs.Inflows.{flow_inflows}
use Rattle.mpy_types.proofs.collect.inflows.Given as goal

abbrev pub invariant-loop-i : goal.invariant-loop-i
invariant-loop-i l =
    flat_map (flow_inflows (map routine_of l.scopes.funcs.now)) (flows (map routine_of l.scopes.funcs.now) (entry_of l.s))
    ≡ l.out.items ++ flat_map (flow_inflows (map routine_of l.scopes.funcs.now)) (flows_from (map routine_of l.scopes.funcs.now) l.i (map routine_of (drop l.i l.scopes.funcs.now)))
