use Rattle.std.proofs.Common.{◌≡◌, ◌++◌, map, drop}
use Rattle.std.specs.List.{flat_map}
use Rattle.mpy_tree.specs.View.{routine_of}
use Rattle.mpy_tree.specs.Flows.{all_site_flows}
use Rattle.mpy_types.specs.Inflows.{flow_inflows}
use Rattle.mpy_scopes.specs.Seen.{site_of}
use Rattle.mpy_types.proofs.collect.Reader.push_body.Given as goal

abbrev pub invariant-loop-s : goal.invariant-loop-s
invariant-loop-s l =
    l.fn.out.items ++ flat_map (flow_inflows (map routine_of l.self.scopes.now.funcs.now)) (flat_map (all_site_flows (map routine_of l.self.scopes.now.funcs.now) l.self.func) (map site_of l.s-items))
    ≡ l.out.items ++ flat_map (flow_inflows (map routine_of l.self.scopes.now.funcs.now)) (flat_map (all_site_flows (map routine_of l.self.scopes.now.funcs.now) l.self.func) (map site_of (drop l.s-index l.s-items)))
