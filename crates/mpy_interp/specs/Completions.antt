-- What the answers of statements say.
use Rattle.std.specs.Prelude.{◌≡◌, ⊤}
use Rattle.std.specs.declared.result.Result.{Result}
use Rattle.std.specs.declared.result.Result.TheVariants.{Ok, Err}
use Rattle.value_operations.specs.declared.stop.Stop.{Stop}
use Rattle.value_operations.specs.declared.stop.Stop.TheVariants as stop
use Rattle.mpy_interp.specs.declared.completion.Completion.{Completion}
use Rattle.mpy_interp.specs.declared.completion.Completion.TheVariants as completion
use Rattle.mpy_tree.specs.Values.{State}
use Rattle.mpy_tree.specs.Statements.{Ran, Next, Broke, Continued, Returned, Failed}

-- statements that ended so in a state
abbrev pub ran_of : Completion → State → Ran
ran_of completion.Next s = Next s
ran_of completion.Broke s = Broke s
ran_of completion.Continued s = Continued s
ran_of (completion.Returned v) s = Returned v s

-- the statements end as the definition says, with this state, unless memory lacked
abbrev pub EndsAs : Result Completion Stop → State → Ran → Type 0
EndsAs (Ok c) s r = r ≡ ran_of c s
EndsAs (Err (stop.Halted h)) s r = r ≡ Failed h
EndsAs (Err stop.NoMemory) s r = ⊤
