use Rattle.std.proofs.Common.{◌≡◌, map, drop, nat_lt}
use Rattle.mpy_tree.specs.View.{term_of, terms, terms_of}
use Rattle.mpy_tree.specs.Trees.{most_depth}
use Rattle.mpy_tree.specs.Shapes.{shapes}
use Rattle.mpy_limits.proofs.limits.+depth.Given as goal

-- the expressions are as deep as those that are left, or not deeper than the limit
abbrev pub invariant-some_is_deeper-loop-e : goal.invariant-some_is_deeper-loop-e
invariant-some_is_deeper-loop-e l = nat_lt l.limit (most_depth (shapes (terms_of l.es))) ≡ nat_lt l.limit (most_depth (shapes (terms (map term_of (drop l.e-index l.es.items.items)))))
