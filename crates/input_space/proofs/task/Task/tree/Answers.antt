-- the tree is that of the parts
use Rattle.std.proofs.Common.{ap, ◌∙◌}
use Rattle.input_space.specs.TaskParts.{task_with}
use Rattle.input_space.specs.Tasks.{tree_of}
use Rattle.input_space.specs.declared.task.TaskParts.{TaskParts}
use Rattle.input_space.proofs.task.Task.tree.Goals as goal

pub returns : goal.returns
returns c = c.self.invariant.1 ∙ ap (λ (p : TaskParts). tree_of (task_with p)) c.self.view_is
