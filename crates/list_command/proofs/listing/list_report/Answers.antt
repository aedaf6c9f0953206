-- each answer has its report
use Rattle.std.proofs.Common.{List, subst, sym}
use Rattle.std.specs.Prelude.{All}
use Rattle.choice_tree.specs.declared.selection.Choice.{Choice}
use Rattle.choice_tree.specs.Selections.{Fits}
use Rattle.input_space.specs.TaskParts.{task_with}
use Rattle.input_space.specs.Tasks.{tree_of}
use Rattle.least_all.proofs.LiveFits.{best_fit}
use Rattle.list_command.specs.Requests.{all_of}
use Rattle.list_command.proofs.Listed.{best_reported, many_reported, spent_reported}
use Rattle.list_command.proofs.listing.list_report.Goals as goal

pub best_report-requires : goal.best_report-requires
best_report-requires c =
    let k = task_with c.args.task.now in
    let listed = c.in-Listed.ensures.1 in
    subst (λ (ss : List (List Choice)). All (Fits (tree_of k)) ss) (sym listed.first) (best_fit k c.args.cost c.args.words.now.most listed.tests)

pub returns-in-Listed : goal.returns-in-Listed
returns-in-Listed c =
    best_reported (all_of c.args.words.now) (task_with c.args.task.now) c.args.cost c.in-Listed.picks c.in-Listed.whole c.best_report.result
    c.in-Listed.ensures.0 c.in-Listed.ensures.1 c.best_report.ensures.status c.best_report.ensures.kept c.best_report.ensures.text

pub returns-in-Many : goal.returns-in-Many
returns-in-Many c =
    many_reported (all_of c.args.words.now) (task_with c.args.task.now) c.args.cost c.many_report.result
    c.in-Many.ensures c.many_report.ensures.text c.many_report.ensures.status c.many_report.ensures.kept

pub spent_report-requires-clause-spent : goal.spent_report-requires-clause-spent
spent_report-requires-clause-spent c = c.in-Spent.ensures.1

pub returns-in-Spent : goal.returns-in-Spent
returns-in-Spent c =
    spent_reported (all_of c.args.words.now) (task_with c.args.task.now) c.args.cost c.spent_report.result
    c.in-Spent.ensures.0 c.spent_report.ensures.text c.spent_report.ensures.status c.spent_report.ensures.kept
