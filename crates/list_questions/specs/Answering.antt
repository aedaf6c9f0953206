-- What is answered where all is tried.
use Rattle.std.specs.Prelude.{ℕ, List, Option, Some, None, MatchOption, Result, Ok, Err}
use Rattle.choice_tree.specs.declared.selection.Choice.{Choice}
use Rattle.cegis_loop.specs.declared.asked.Asked.{Asked}
use Rattle.cegis_loop.specs.declared.asked.Asked.TheVariants as asked
use Rattle.cegis_loop.specs.Space.{IsLow}
use Rattle.input_space.specs.declared.case.Case.{Case}
use Rattle.input_space.specs.Tasks.{Task}
use Rattle.input_space.specs.TaskSpace.{space}
use Rattle.list_questions.specs.Asking.{Asking, task_of}

-- what was found, or nothing; an error is want of memory
abbrev pub answer : {T E : Type 0} → Result (Option T) E → Asked T
answer (Ok (Some x)) = asked.Found x
answer (Ok None) = asked.Nothing
answer (Err e) = asked.NoMemory

-- no selection within the bound agrees on the cases
abbrev pub NoneLow : Task → Option ℕ → List Case → Type 0
NoneLow k most xs = (s : List Choice) → IsLow (space k 1) most xs s → ⊥

-- a selection within the bound that agrees on the kept cases, or none where there is none
abbrev pub IsProposed : Asking → Option ℕ → Option (List Choice) → Type 0
IsProposed a most o =
    MatchOption o (NoneLow (task_of a) most a.kept) (IsLow (space (task_of a) 1) most a.kept)
