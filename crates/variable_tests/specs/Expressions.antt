-- A weighted expression: x + 1, or 3 // x by its pick.
use Rattle.std.specs.Prelude.{ℕ, List, [], ◌∷◌}
use Rattle.mpy_tree.specs.Trees as kind
use Rattle.mpy_tree.specs.declared.operators.ArithOp.TheVariants as op
use Rattle.choice_tree.specs.WeightedTrees.{Weighted, plainly, pick, no_weighted, no_others}
use Rattle.choice_tree.specs.WeightedTrees.{other_and}
use Rattle.choice_tree.specs.WeightedViews.{two}

abbrev pub x : List ℕ
x = 120 ∷ []

abbrev pub name : Weighted
name = plainly (kind.Name x) no_weighted

abbrev pub literal : ℕ → Weighted
literal n = plainly (kind.Int n) no_weighted

abbrev pub sum : Weighted
sum = plainly (kind.Arith op.Add) (two name (literal 1))

abbrev pub quotient : Weighted
quotient = plainly (kind.Arith op.Floor) (two (literal 3) name)

abbrev pub choice : Weighted
choice = pick 0 sum (other_and 0 1 quotient no_others)
