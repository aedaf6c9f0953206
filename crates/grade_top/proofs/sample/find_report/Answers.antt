-- the texts are those of the sample, and the report is that of their answer
use Rattle.std.proofs.Common.{List, option_map, ℕ, refl, subst, sym, ◌∙◌}
use Rattle.mpy_tree.specs.declared.refusal.Refusal.{Refusal}
use Rattle.input_space.specs.TaskParts.{task_with}
use Rattle.source_files.specs.Texts.{AllFit}
use Rattle.file_commands.proofs.Stopping.{stopped}
use Rattle.grade_core.specs.Decisions.{task_sources, task_step}
use Rattle.grade_top.proofs.SampleLaws.{few, sample_fits, sample_is}
use Rattle.grade_top.proofs.sample.find_report.Goals as goal

pub grade_texts-requires-clause-fit : goal.grade_texts-requires-clause-fit
grade_texts-requires-clause-fit c =
    let made = sample_is c.args.number _ _ _ _ (c.into_vec.ensures ∙ c.in_ok-made.ensures.bounds) (c.into_vec-2.ensures ∙ c.in_ok-made.ensures.reference)
    (c.into_vec-3.ensures ∙ c.in_ok-made.ensures.submission) (c.into_vec-4.ensures ∙ c.in_ok-made.ensures.rules) in
    subst (AllFit task_sources) (sym made) (sample_fits c.args.number)

pub returns-in_err-graded : goal.returns-in_err-graded
returns-in_err-graded c =
    let made = sample_is c.args.number _ _ _ _ (c.into_vec.ensures ∙ c.in_ok-made.ensures.bounds) (c.into_vec-2.ensures ∙ c.in_ok-made.ensures.reference)
    (c.into_vec-3.ensures ∙ c.in_ok-made.ensures.submission) (c.into_vec-4.ensures ∙ c.in_ok-made.ensures.rules) in
    stopped _ _ _ c.from_residual-in_err-graded.result c.in_err-graded.field-0.0 c.from_residual-in_err-graded.ensures.1 c.in_err-graded.ensures
    (λ (q : Refusal) h. subst (λ (ts : List (List ℕ)). (task_step ts).refuses q) made h)

pub text-requires-clause-few : goal.text-requires-clause-few
text-requires-clause-few c =
    let made = sample_is c.args.number _ _ _ _ (c.into_vec.ensures ∙ c.in_ok-made.ensures.bounds) (c.into_vec-2.ensures ∙ c.in_ok-made.ensures.reference)
    (c.into_vec-3.ensures ∙ c.in_ok-made.ensures.submission) (c.into_vec-4.ensures ∙ c.in_ok-made.ensures.rules) in
    let k = task_with c.in_ok-graded.graded.task in
    few c.args.number k (subst (λ (ts : List (List ℕ)). (task_step ts).gives k) made c.in_ok-graded.ensures.task)

pub returns : goal.returns
returns c =
    let made = sample_is c.args.number _ _ _ _ (c.into_vec.ensures ∙ c.in_ok-made.ensures.bounds) (c.into_vec-2.ensures ∙ c.in_ok-made.ensures.reference)
    (c.into_vec-3.ensures ∙ c.in_ok-made.ensures.submission) (c.into_vec-4.ensures ∙ c.in_ok-made.ensures.rules) in
    let k = task_with c.in_ok-graded.graded.task in
    let shown = c.in_ok-text.ensures in
    record {
      answer = record { task = k; answer = shown.answer; cert = option_map (λ v. v.items) c.in_ok-graded.graded.cert };
      decided = record {
        task = subst (λ (ts : List (List ℕ)). (task_step ts).gives k) made c.in_ok-graded.ensures.task;
        answer = c.in_ok-graded.ensures.answered shown.answer shown.stands;
        cert = c.in_ok-graded.ensures.kept shown.answer shown.stands;
      };
      shows = record { text = shown.text_is; status = c.answer_status.ensures.written k shown.answer shown.stands; kept = refl };
    }
