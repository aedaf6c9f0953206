-- what the search found, as the answer to the task
use Rattle.std.proofs.Common.{arith, subst}
use Rattle.cegis_loop.specs.Answers.{IsLeast}
use Rattle.input_space.specs.TaskParts.{task_with}
use Rattle.input_space.specs.TaskSpace.{space, wanted_inputs}
use Rattle.grade_core.proofs.AnswerLaws.{best_selection, kept_under, none_below, none_kept, none_wanted, some_fails, some_wanted}
use Rattle.grade_core.proofs.run.told.Goals as goal

pub first_failure-requires-clause-inputs : goal.first_failure-requires-clause-inputs
first_failure-requires-clause-inputs c = c.requires.inputs.inputs

pub first_failure-requires-clause-some : goal.first_failure-requires-clause-some
first_failure-requires-clause-some c =
    let k = task_with c.args.runs.now.task.now in
    let found : IsLeast (space k c.args.budget) c.args.kept.now c.in-Found.choice c.in-Found.cost = (rw c.in-Found.is at c.requires.means_on_kept).1 in
    some_fails k c.is_sound.ensures c.args.kept.now (λ s fits free met. found.least s fits (let dear = c.in-Found.cost-test.1 in omega arith) met)

pub first_failure-requires-in-Nothing-clause-some : goal.first_failure-requires-in-Nothing-clause-some
first_failure-requires-in-Nothing-clause-some c =
    let none = (rw c.in-Nothing.is at c.requires.means_on_kept).1 in
    some_fails (task_with c.args.runs.now.task.now) c.is_sound.ensures c.args.kept.now (λ s fits free met. none s fits met)

pub returns-in-Found-default-eq0-clause-right : goal.returns-in-Found-default-eq0-clause-right
returns-in-Found-default-eq0-clause-right c =
    let k = task_with c.args.runs.now.task.now in
    let b = c.args.budget in
    let s = c.in-Found-default-eq0.choice in
    let means = rw c.in-Found-default-eq0.is at c.requires.means in
    let found : IsLeast (space k b) (wanted_inputs k) s c.in-Found-default-eq0.cost = means.1 in (
      some_wanted k means.0,
      c.least_choices_are_best.ensures.submission k b s c.is_sound.ensures (subst (IsLeast (space k b) (wanted_inputs k) s) c.in-Found-default-eq0.cost-test found),
    )

pub returns-in_ok-first_failure-in-Found-clause-right : goal.returns-in_ok-first_failure-in-Found-clause-right
returns-in_ok-first_failure-in-Found-clause-right c =
    let k = task_with c.args.runs.now.task.now in
    let b = c.args.budget in
    let found : IsLeast (space k b) (wanted_inputs k) c.in-Found.choice c.in-Found.cost = (rw c.in-Found.is at c.requires.means).1 in (
      best_selection c.least_choices_are_best.ensures.best k b c.in-Found.choice c.in-Found.cost c.is_sound.ensures found,
      (let dear = c.in-Found.cost-test.1 in omega arith),
      c.in_ok-first_failure-in-Found.ensures,
    )

pub returns-in_ok-first_failure-in-Nothing-clause-right : goal.returns-in_ok-first_failure-in-Nothing-clause-right
returns-in_ok-first_failure-in-Nothing-clause-right c =
    let k = task_with c.args.runs.now.task.now in (
      c.least_choices_are_best.ensures.none k c.args.budget c.is_sound.ensures (rw c.in-Nothing.is at c.requires.means).1,
      c.in_ok-first_failure-in-Nothing.ensures,
    )

pub returns-in-NoCase-clause-right : goal.returns-in-NoCase-clause-right
returns-in-NoCase-clause-right c = none_wanted (task_with c.args.runs.now.task.now) (rw c.in-NoCase.is at c.requires.means)

pub returns-in-Spent-clause-right : goal.returns-in-Spent-clause-right
returns-in-Spent-clause-right c =
    none_below (task_with c.args.runs.now.task.now) c.args.budget c.in-Spent.at_least c.is_sound.ensures (rw c.in-Spent.is at c.requires.means)

-- WHAT WAS KEPT

pub returns-in-Found-default-eq0-clause-kept : goal.returns-in-Found-default-eq0-clause-kept
returns-in-Found-default-eq0-clause-kept c =
    record { inputs = kept_under (task_with c.args.runs.now.task.now) c.args.budget 1 c.args.kept.now c.requires.inputs; ruled_out = tt }

pub returns-in_ok-first_failure-in-Found-clause-kept : goal.returns-in_ok-first_failure-in-Found-clause-kept
returns-in_ok-first_failure-in-Found-clause-kept c =
    let k = task_with c.args.runs.now.task.now in
    let found : IsLeast (space k c.args.budget) c.args.kept.now c.in-Found.choice c.in-Found.cost = (rw c.in-Found.is at c.requires.means_on_kept).1 in
    record { inputs = kept_under k c.args.budget 1 c.args.kept.now c.requires.inputs; ruled_out = found.least }

pub returns-in_ok-first_failure-in-Nothing-clause-kept : goal.returns-in_ok-first_failure-in-Nothing-clause-kept
returns-in_ok-first_failure-in-Nothing-clause-kept c =
    record {
      inputs = kept_under (task_with c.args.runs.now.task.now) c.args.budget 1 c.args.kept.now c.requires.inputs;
      ruled_out = (rw c.in-Nothing.is at c.requires.means_on_kept).1;
    }

pub returns-in-NoCase-clause-kept : goal.returns-in-NoCase-clause-kept
returns-in-NoCase-clause-kept c =
    let k = task_with c.args.runs.now.task.now in
    record {
      inputs = kept_under k c.args.budget 1 c.args.kept.now c.requires.inputs;
      ruled_out = none_kept k c.args.budget c.args.kept.now (rw c.in-NoCase.is at c.requires.means) c.requires.inputs;
    }

pub returns-in-Spent-clause-kept : goal.returns-in-Spent-clause-kept
returns-in-Spent-clause-kept c =
    record {
      inputs = kept_under (task_with c.args.runs.now.task.now) c.args.budget 1 c.args.kept.now c.requires.inputs;
      ruled_out = rw c.in-Spent.is at c.requires.means_on_kept;
    }
