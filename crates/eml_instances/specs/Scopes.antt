-- A function of a program whose names have known types.
use Rattle.std.specs.Prelude.{ℕ, List, map}
use Rattle.mpy_tree.specs.declared.tree.Func.{Func}
use Rattle.mpy_tree.specs.View.{routine_of}
use Rattle.mpy_tree.specs.Rules.{single}
use Rattle.mpy_tree.specs.SetTypes.{FactSet}
use Rattle.choice_tree.specs.Typing.{Scope}

abbrev pub scope_of : FactSet → List Func → ℕ → Scope
scope_of facts funcs number =
    record { slots = single facts; program = map routine_of funcs; number = number }
