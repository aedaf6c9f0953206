use Rattle.std.proofs.Common.{ℕ, List, length, subst}
use Rattle.choice_tree.specs.declared.selection.Choice.{Choice}
use Rattle.input_space.specs.TaskParts.{task_with}
use Rattle.list_command.specs.Reports.{ListsChanges}
use Rattle.list_command.specs.Texts.{heading_text}
use Rattle.list_command.proofs.listing.best_report.Goals as goal

pub returns-clause-text : goal.returns-clause-text
returns-clause-text c =
    let k = task_with c.args.task.now in
    let same = c.items-picks.ensures in
    let new = c.push_corrections.new.out.items in
    subst (λ (ss : List (List Choice)). ListsChanges k ss (heading_text c.args.cost (length ss) c.args.whole) new) same
    (subst (λ (old : List ℕ). ListsChanges k c.items-picks.result.now old new) c.in_ok-text.ensures c.in_ok-push_corrections.ensures)
