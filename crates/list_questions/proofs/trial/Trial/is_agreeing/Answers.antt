-- the program of the selection agrees, or fails on a kept case
use Rattle.std.proofs.Common.{◌≡◌, ◌∙◌, ap}
use Rattle.mpy_tree.specs.Shapes.{program_shape}
use Rattle.mpy_tree.specs.View.{routines_of}
use Rattle.choice_tree.specs.Choices.{member_of}
use Rattle.choice_tree.specs.Selections.{plain}
use Rattle.choice_tree.proofs.EditLaws.{if_ok}
use Rattle.input_space.specs.TaskParts.{task_with}
use Rattle.input_space.specs.Tasks.{tree_of}
use Rattle.input_space.proofs.TaskSpaceLaws.{all_meet, all_selection_meet}
use Rattle.list_questions.proofs.trial.Trial.is_agreeing.Goals as goal

pub returns : goal.returns
returns c =
    let k = task_with c.args.self.now.runs.task.now in
    let s = c.args.selection.now in
    let p = routines_of c.in_ok-program.program in
    let xs = c.args.self.now.kept.now in
    let made : program_shape p ≡ plain (member_of s) (tree_of k) = c.in_ok-program.ensures ∙ ap (plain (member_of s)) c.tree.ensures in
    if_ok c.agrees.result (λ b h. (λ t. all_selection_meet k s p xs made (h.0 t), λ all. h.1 (all_meet k s p xs made all))) c.agrees.ensures
