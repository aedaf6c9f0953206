use Rattle.std.proofs.Common.{◌≡◌, ◌++◌, map, drop}
use Rattle.std.specs.List.{flat_map}
use Rattle.mpy_tree.specs.View.{routine_of}
use Rattle.mpy_tree.specs.Flows.{all_site_flows, node_flows}
use Rattle.mpy_types.specs.Inflows.{flow_inflows}
use Rattle.mpy_scopes.specs.Seen.{site_of, node_of}
use Rattle.mpy_types.proofs.collect.Reader.push_site.Given as goal

abbrev pub invariant-loop-n : goal.invariant-loop-n
invariant-loop-n l =
    l.fn.out.items ++ flat_map (flow_inflows (map routine_of l.self.scopes.now.funcs.now)) (all_site_flows (map routine_of l.self.scopes.now.funcs.now) l.self.func (site_of l.s))
    ≡ l.out.items ++ flat_map (flow_inflows (map routine_of l.self.scopes.now.funcs.now)) (flat_map (node_flows (map routine_of l.self.scopes.now.funcs.now) l.self.func) (map node_of (drop l.n-index l.n-items)))
