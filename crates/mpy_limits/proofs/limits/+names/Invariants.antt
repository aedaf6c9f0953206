use Rattle.std.proofs.Common.{◌≡◌, map, drop}
use Rattle.mpy_tree.specs.View.{term_of, terms, terms_of}
use Rattle.std.specs.List.{list_any}
use Rattle.mpy_tree.specs.Sites.{all_nodes}
use Rattle.mpy_limits.specs.Limits.{is_long_node}
use Rattle.mpy_limits.proofs.limits.+names.Given as goal

-- all have a long name where those that are left have one
abbrev pub invariant-some_has_long-loop-e : goal.invariant-some_has_long-loop-e
invariant-some_has_long-loop-e l = list_any is_long_node (all_nodes (terms_of l.es)) ≡ list_any is_long_node (all_nodes (terms (map term_of (drop l.e-index l.es.items.items))))
