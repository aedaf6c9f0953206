-- The set of facts that a table holds.
use Rattle.std.specs.Prelude.{ℕ, List, map, Option, Some, None, slice_index_or}
use Rattle.mpy_types.specs.declared.table.Table.{Table}
use Rattle.mpy_tree.specs.declared.typing.TypeSet.{TypeSet}
use Rattle.mpy_tree.specs.View.{routine_of}
use Rattle.mpy_tree.specs.Syntax.{Routine}
use Rattle.mpy_tree.specs.TypeSets.{no_types}
use Rattle.mpy_tree.specs.SetTypes.{FactSet}
use Rattle.mpy_scopes.specs.Numbers.{number}

-- the types at a number, none beyond the last
abbrev pub type_at : List TypeSet → ℕ → TypeSet
type_at sets k = slice_index_or sets k no_types

abbrev pub types_numbered : List TypeSet → Option ℕ → TypeSet
types_numbered sets None = no_types
types_numbered sets (Some k) = type_at sets k

-- the facts that types by number are of a program
abbrev pub facts_by : List Routine → List TypeSet → FactSet
facts_by p sets = λ j y. types_numbered sets (number p j y)

abbrev pub facts_of : Table → FactSet
facts_of t = facts_by (map routine_of t.scopes.now.funcs.now) t.sets.items
