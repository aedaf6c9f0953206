-- Whatever members are chosen, a weighted program makes a program.
use Rattle.std.proofs.Common.{◌≡◌, ℕ, List, [], ◌∷◌, map, refl, ap}
use Rattle.mpy_tree.specs.Syntax.{Routine}
use Rattle.mpy_tree.specs.Shapes.{routine_shapes}
use Rattle.mpy_tree.specs.Trees as kind
use Rattle.mpy_tree.specs.Trees.{node, tree_and, one}
use Rattle.choice_tree.specs.declared.tree.WFunc.{WFunc}
use Rattle.choice_tree.specs.Selections.{plains}
use Rattle.choice_tree.specs.StatementViews.{weighted_func}
use Rattle.choice_tree.specs.WeightedViews.{weighteds}
use Rattle.selection_programs.specs.Programs.{MakesPrograms}
use Rattle.selection_programs.proofs.Statements.{block_made}

functions_made : (m : ℕ → ℕ) (fs : List WFunc)
    → (rs : List Routine) × (routine_shapes rs ≡ plains m (weighteds (map weighted_func fs)))
functions_made m [] = ([], refl)
functions_made m (f ∷ fs) =
    let b = block_made m f.body in
    let rest = functions_made m fs in (
      record { line = f.line; name = f.name; params = f.params; body = b.0 } ∷ rest.0,
      λ i. tree_and (node (kind.Function f.line f.name f.params) (one (b.1 i))) (rest.1 i),
    )

pub program_made : MakesPrograms
program_made w m =
    let made = functions_made m w.funcs.items.items in
    (made.0, ap (node kind.Program) made.1)
