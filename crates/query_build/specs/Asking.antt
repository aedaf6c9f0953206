-- What is asked for with picks: which program they choose, and what may be asked.
use Rattle.std.specs.Prelude.{◌≡◌, ℕ, Bool, List, All, take, drop, Option, Some, None}
use Rattle.std.specs.List.{Contains}
use Rattle.mpy_tree.specs.Shapes.{program_shape}
use Rattle.mpy_tree.specs.Syntax.{Routine}
use Rattle.choice_tree.specs.Selections.{plain}
use Rattle.sym_nodes.specs.Environments.{PicksRead}
use Rattle.input_space.specs.declared.case.Case.{Case}
use Rattle.input_space.specs.Tasks.{Task, tree_of}
use Rattle.input_space.specs.TaskSpace.{wanted_inputs}

-- members make a program of the tree
abbrev pub MakesProgram : Task → (ℕ → ℕ) → Type 0
MakesProgram k m = (p : List Routine) × (program_shape p ≡ plain m (tree_of k))

-- picks read as the members by which a program is made of the tree
pub record Choose {B : Type 0} (rd : B → Bool) (k : Task) (picks : List (List B))
    (p : List Routine) : Type 0 where
  pub members : ℕ → ℕ
  pub read : PicksRead rd picks members
  pub made : program_shape p ≡ plain members (tree_of k)

-- where picks are given, so is a program that they choose
abbrev pub MayChoose : {B : Type 0} → (B → Bool) → Task → Option (List (List B))
    → Option (List Routine) → Type 0
MayChoose rd k None None = Unit {0}
MayChoose rd k (Some picks) (Some p) = Choose rd k picks p
MayChoose rd k None (Some p) = ⊥
MayChoose rd k (Some picks) None = ⊥

-- inputs on which the reference gives a value
abbrev pub AreWanted : Task → List Case → Type 0
AreWanted k xs = All (Contains (wanted_inputs k)) xs

-- the truth values of a question's own variables, which are those from 2 on
abbrev pub own_bits : ℕ → List Bool → List Bool
own_bits n values = take n (drop 1 values)
