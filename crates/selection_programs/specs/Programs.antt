-- What the selections of a weighted program make.
use Rattle.std.specs.Prelude.{◌≡◌, ℕ, List}
use Rattle.mpy_tree.specs.Syntax.{Routine}
use Rattle.mpy_tree.specs.Shapes.{program_shape}
use Rattle.choice_tree.specs.declared.tree.WProg.{WProg}
use Rattle.choice_tree.specs.StatementViews.{weighted_prog}
use Rattle.choice_tree.specs.Selections.{plain}

-- whatever members are chosen, the plain tree of a weighted program is that of a program
abbrev pub MakesPrograms : Type 0
MakesPrograms =
    (w : WProg) (m : ℕ → ℕ) → (p : List Routine) × (program_shape p ≡ plain m (weighted_prog w))
