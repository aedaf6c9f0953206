use Rattle.std.proofs.Common.{◌∙◌, ap, not, sym}
use Rattle.choice_tree.specs.Selections.{cost}
use Rattle.input_space.specs.TaskParts.{task_with}
use Rattle.input_space.specs.Tasks.{tree_of}
use Rattle.query_build.specs.Comparing.{is_cheap}
use Rattle.query_build.proofs.Counted.{above}
use Rattle.query_build.proofs.goals.cost_within.Goals as goal

pub returns-clause-value : goal.returns-clause-value
returns-clause-value g c vs m read =
    let reads = g.L.Logic.reads c.task_cost_reaches.new.g vs in
    let price = cost m (tree_of (task_with c.args.task.now)) in
    let high = above reads c.in_ok-counter.counter c.in-Some.most price c.at-above.result
    (c.in_ok-counter.ensures.value vs m read) c.at-above.ensures in
    c.not.ensures.value vs ∙ ap not high ∙ ap (λ o. is_cheap o price) (sym c.in-Some.is)
