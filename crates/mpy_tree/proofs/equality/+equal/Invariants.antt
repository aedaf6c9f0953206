use Rattle.std.proofs.Common.{◌≡◌, map, drop}
use Rattle.std.specs.Cmp.Lexicographic.{pointwise}
use Rattle.mpy_tree.specs.View.{term_of, terms_of}
use Rattle.mpy_tree.specs.Comparing.{same_term, same_terms}
use Rattle.mpy_tree.proofs.equality.+equal.Given as goal

-- the lists are equal where what is left of them is
abbrev pub invariant-equal_exprs-loop-i : goal.invariant-equal_exprs-loop-i
invariant-equal_exprs-loop-i l = same_terms (terms_of l.a) (terms_of l.b) ≡ pointwise same_term (map term_of (drop l.i l.a.items.items)) (map term_of (drop l.i l.b.items.items))
