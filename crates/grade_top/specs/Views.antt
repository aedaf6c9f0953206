-- The code's typed programs as the definitions see them.
use Rattle.mpy_tree.specs.View.{routines_of}
use Rattle.task_read.specs.Sources.{Typed}
use Rattle.grade_top.specs.declared.typed.Typed as code_typed

abbrev pub typed_of : code_typed.Typed → Typed
typed_of p = record { program = routines_of p.program; types = p.types.facts }
