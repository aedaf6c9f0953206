-- the answer is right, and its certificate shows it
use Rattle.std.specs.Prelude.{option_map}
use Rattle.input_space.specs.TaskParts.{task_with}
use Rattle.grade_core.proofs.DecidingLaws.{given_told, stands_right}
use Rattle.grade_core.proofs.ShownLaws.{shown}
use Rattle.grade_core.proofs.grading.grade_texts.Goals as goal

pub kept-requires-clause-run : goal.kept-requires-clause-run
kept-requires-clause-run c = c.answer-run.ensures.run c.in_default.not-NoMemory

pub returns : goal.returns
returns c =
    let k = task_with c.in_ok-task.task in
    let run = c.answer-run.result in
    record {
      task = c.in_ok-task.ensures;
      told = given_told k run.kept run.answer c.answer-run.ensures.right c.in_default.not-NoMemory;
      answered = λ a stands. stands_right k run.kept run.answer a c.answer-run.ensures.right stands;
      kept = λ a stands. shown c.right_under_any_budget.ensures k c.args.budget run.answer run.kept run.sessions (option_map (λ v. v.items) c.in_ok-cert.cert) a (c.answer-run.ensures.run c.in_default.not-NoMemory) c.in_ok-cert.ensures stands;
    }
