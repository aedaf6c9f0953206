use Rattle.std.proofs.Common.{◌≡◌, ◌++◌, map, drop}
use Rattle.mpy_tree.specs.View.{term_of, terms, terms_of}
use Rattle.mpy_tree.specs.Sites.{all_nodes}
use Rattle.mpy_scopes.specs.Seen.{node_of}
use Rattle.mpy_scopes.proofs.nodes.+nodes.Given as goal

-- with the nodes of the expressions that are left, the nodes so far are those of all
abbrev pub invariant-push_all-loop-e : goal.invariant-push_all-loop-e
invariant-push_all-loop-e l =
    map node_of l.fn.out.items ++ all_nodes (terms_of l.es)
    ≡ map node_of l.out.items ++ all_nodes (terms (map term_of (drop l.e-index l.es.items.items)))
