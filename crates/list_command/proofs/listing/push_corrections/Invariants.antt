use Rattle.std.specs.Prelude.{take}
use Rattle.input_space.specs.TaskParts.{task_with}
use Rattle.list_command.specs.Reports.{ListsChanges}
use Rattle.list_command.proofs.listing.push_corrections.Given as goal

-- the corrections by the selections so far
abbrev pub invariant-loop-i : goal.invariant-loop-i
invariant-loop-i l =
    ListsChanges (task_with l.task) (take l.i l.picks) l.initial.out.items l.out.items
