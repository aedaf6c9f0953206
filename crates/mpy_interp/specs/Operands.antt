-- The value that an operand is.
use Rattle.mpy_tree.specs.declared.value.Value.{Value}
use Rattle.mpy_interp.specs.declared.operand.Operand.{Operand}
use Rattle.mpy_interp.specs.declared.operand.Operand.TheVariants.{Local, Made}

abbrev pub value_behind : Operand → Value
value_behind (Local v) = v.now
value_behind (Made v) = v
