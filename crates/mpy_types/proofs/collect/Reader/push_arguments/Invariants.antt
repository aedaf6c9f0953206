use Rattle.std.proofs.Common.{◌≡◌, ◌++◌, map, drop}
use Rattle.std.specs.List.{flat_map}
use Rattle.mpy_tree.specs.View.{routine_of, term_of, terms}
use Rattle.mpy_tree.specs.Flows.{argument_flows}
use Rattle.mpy_types.specs.Inflows.{flow_inflows}
use Rattle.mpy_types.proofs.collect.Reader.push_arguments.Given as goal

abbrev pub invariant-loop-k : goal.invariant-loop-k
invariant-loop-k l =
    l.fn.out.items ++ flat_map (flow_inflows (map routine_of l.self.scopes.now.funcs.now)) (argument_flows l.g.number l.g.func.now.params l.self.func (terms (map term_of l.es.items.items)))
    ≡ l.out.items ++ flat_map (flow_inflows (map routine_of l.self.scopes.now.funcs.now)) (argument_flows l.g.number (drop l.k l.g.func.now.params) l.self.func (terms (map term_of (drop l.k l.es.items.items))))
