use Rattle.std.proofs.Common.{◌≡◌, map, drop}
use Rattle.std.specs.List.{list_any}
use Rattle.mpy_tree.specs.View.{term_of, terms, terms_of}
use Rattle.mpy_tree.specs.Sites.{all_nodes}
use Rattle.mpy_tree.specs.Sharing.{is_call_of}
use Rattle.mpy_share.proofs.calls.+calls.Given as goal

-- no call so far
abbrev pub invariant-some_call-loop-e : goal.invariant-some_call-loop-e
invariant-some_call-loop-e l =
    list_any (is_call_of l.f) (all_nodes (terms_of l.es))
    ≡ list_any (is_call_of l.f) (all_nodes (terms (map term_of (drop l.e-index l.es.items.items))))
