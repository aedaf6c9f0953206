-- the lines have the number of edits that the selection makes
use Rattle.std.proofs.Common.{rules}
use Rattle.input_space.specs.TaskParts.{task_with}
use Rattle.grade_top.proofs.SampleLaws.{summarized}
use Rattle.grade_top.proofs.sample.corrected_lines.Goals as goal

pub returns : goal.returns
returns c =
    summarized c.args.number (task_with c.args.task.now) c.args.selection.now c.args.cost _ _ c.in_ok-edits.edits.items.items _
    c.tree.ensures c.in_ok-edits.ensures.replaced c.tree-2.ensures c.in_ok-_program.ensures c.len.result (search rules) c.lines.result c.lines.ensures
