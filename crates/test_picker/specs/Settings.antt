-- The programs that are compared within bounds.
use Rattle.std.specs.Prelude.{◌≡◌, List, All, map}
use Rattle.mpy_tree.specs.Shapes.{program_shape}
use Rattle.mpy_tree.specs.Syntax.{Routine}
use Rattle.bounds_reader.specs.declared.bounds.Bounds.{Bounds}
use Rattle.choice_tree.specs.StatementViews.{weighted_prog}
use Rattle.choice_tree.specs.WeightedTrees.{lifted}
use Rattle.test_picker.specs.declared.blocks.Setting.{Setting}
use Rattle.test_picker.specs.declared.program.Program.{Program}
use Rattle.test_picker.specs.declared.typed_list.Typed.{Typed}
use Rattle.test_picker.specs.Programs.{GiveOneType, IsTypedFor, program_of, programs_of}

-- the weighted tree is that of the program, which has no picks
abbrev pub IsWhole : Program → Type 0
IsWhole q = weighted_prog q.tree ≡ lifted (program_shape (program_of q.typed.now))

abbrev pub typed_in : List Program → List Typed
typed_in qs = map (λ q. q.typed.now) qs

-- the bounds, the reference, and the programs that are compared with it
abbrev pub bounds_of : Setting → Bounds
bounds_of s = s.bounds.now

abbrev pub typed_reference : Setting → Typed
typed_reference s = s.reference.now.typed.now

abbrev pub reference_of : Setting → List Routine
reference_of s = program_of (typed_reference s)

abbrev pub routines_in : List Program → List (List Routine)
routines_in qs = programs_of (typed_in qs)

-- all are typed within the bounds, and give results of one type
pub record AreComparable (s : Setting) (qs : List Program) : Type 0 where
  pub whole_reference : IsWhole s.reference.now
  pub whole : All IsWhole qs
  pub reference : IsTypedFor (bounds_of s) (typed_reference s)
  pub others : All (IsTypedFor (bounds_of s)) (typed_in qs)
  pub one_type : All (GiveOneType (bounds_of s) (typed_reference s)) (typed_in qs)
