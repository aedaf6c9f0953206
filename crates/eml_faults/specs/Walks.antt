-- What stands in a side, by the list of its parts.
use Rattle.std.specs.Prelude.{ℕ, ◌+◌, ◌*◌, max, Bool, true, false, List, [], ◌∷◌}
use Rattle.choice_tree.specs.Templates.{Template, made, hole, one_of}
use Rattle.eml_match.specs.Resolutions.{depth}
use Rattle.eml_faults.specs.Sides.{operator_count, set_count}

abbrev pub is_set : Template → Bool
is_set (one_of ps) = true
is_set _ = false

abbrev pub operators : Template → ℕ
operators (made k ps) = operator_count k
operators _ = 1

abbrev pub product_of_counts : List Template → ℕ
product_of_counts [] = 1
product_of_counts (p ∷ ps) = set_count p * product_of_counts ps

abbrev pub sum_of_counts : List Template → ℕ
sum_of_counts [] = 0
sum_of_counts (p ∷ ps) = set_count p + sum_of_counts ps

-- the depth of the deepest of them
abbrev pub deepest : List Template → ℕ
deepest [] = 0
deepest (p ∷ ps) = max (depth p) (deepest ps)

abbrev pub is_primed_hole : Template → Bool
is_primed_hole (hole m) = m.primed
is_primed_hole _ = false
