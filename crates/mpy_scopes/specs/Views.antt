-- What the code's structs are as mathematics.
use Rattle.mpy_tree.specs.Syntax.{Routine}
use Rattle.mpy_tree.specs.View.{routine_of}
use Rattle.mpy_tree.specs.SetTypes.{Callee, callee}
use Rattle.mpy_scopes.specs.declared.callees.Numbered.{Numbered}
use Rattle.mpy_scopes.specs.declared.scope.Scope.{Scope}

abbrev pub callee_of : Numbered → Callee
callee_of g = callee g.number (routine_of g.func.now)

abbrev pub scope_routine : Scope → Routine
scope_routine s = routine_of s.func.now
