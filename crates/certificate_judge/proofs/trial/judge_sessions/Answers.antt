-- sessions that pass make an accepted certificate
use Rattle.std.proofs.Common.{◌∙◌, ap}
use Rattle.choice_tree.specs.Choices.{member_of}
use Rattle.choice_tree.specs.Selections.{plain}
use Rattle.input_space.specs.TaskParts.{task_with}
use Rattle.certificate_judge.proofs.TrialLaws.{accepted}
use Rattle.certificate_judge.proofs.trial.judge_sessions.Goals as goal

pub returns-in_ok-plain-in-Cost : goal.returns-in_ok-plain-in-Cost
returns-in_ok-plain-in-Cost c = (
  c.requires.form,
  c.in-Cost.is,
  c.in_ok-plain-in-Cost.ensures ∙ ap (plain (member_of c.args.c.now.selection)) c.tree.ensures,
  accepted (task_with c.args.t.now) c.args.c.now c.in-Passes.anew c.requires.form (rw c.in-Passes.is at c.in_ok-anew.ensures),
)

pub returns-in-Nothing : goal.returns-in-Nothing
returns-in-Nothing c = (
  c.requires.form,
  c.in-Nothing.is,
  accepted (task_with c.args.t.now) c.args.c.now c.in-Passes.anew c.requires.form (rw c.in-Passes.is at c.in_ok-anew.ensures),
)
