-- A task, from its parts in code.
use Rattle.mpy_tree.specs.View.{routines_of}
use Rattle.choice_tree.specs.RuleViews.{corrections_of}
use Rattle.input_space.specs.declared.task.TaskParts.{TaskParts}
use Rattle.input_space.specs.Tasks.{Task}

abbrev pub task_with : TaskParts → Task
task_with p = record {
  bounds = p.bounds;
  reference = routines_of p.reference;
  reference_types = p.reference_types.facts;
  submission = routines_of p.submission;
  submission_types = p.submission_types.facts;
  rules = corrections_of p.rules;
}
