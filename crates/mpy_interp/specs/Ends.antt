-- How a run ends, as the definition has it.
use Rattle.mpy_tree.specs.Running.{Done}
use Rattle.mpy_interp.specs.declared.program.End.{End}

abbrev pub done_of : End → Done
done_of e = record { value = e.value; printed = e.printed }
