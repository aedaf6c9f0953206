-- A correction is a rewriting of a program that a text spells, so its text spells it alone.
use Rattle.std.proofs.Common.{◌≡◌, ℕ, List, [], ◌∷◌, map, Option}
use Rattle.grade_io.specs.Devices.{Devices}
use Rattle.grade_io.specs.Written.{Wrote}
use Rattle.grade_io.specs.declared.status.Status.TheVariants as status
use Rattle.mpy_round_trip.specs.RoundTrip.{SpelledByItsText, SpelledByNoOther}
use Rattle.input_space.specs.Tasks.{IsSound, Task}
use Rattle.rewriting_laws.specs.TaskLaws.{CandidatesAreProper}
use Rattle.task_read.specs.TaskLaws.{TasksAreSound}
use Rattle.file_commands.specs.Commands.{Answered, Outcome, Refused, status_of, text_of}
use Rattle.file_commands.specs.Ends.{ComesOfFiles, EndsBySaying}
use Rattle.feedback_text.specs.Answers.{Answer, Correct, Corrected, EmptyReference}
use Rattle.feedback_text.specs.Answers.{NoCorrection, Spent, edit_tree}
use Rattle.grade_core.specs.Commands.{Graded, answer_text, grade_command}
use Rattle.grade_core.specs.Commands.{status_of as status_of_answer}
use Rattle.grade_core.specs.Decisions.{task_step}
use Rattle.grade_core.specs.Words.{GradeWords}
use Rattle.grade_top.specs.PrintedPrograms.{CorrectionsAreSpelled, PrintsCorrection}

-- THE LAW

sound_task : TasksAreSound → (ts : List (List ℕ)) (k : Task) → (task_step ts).gives k → IsSound k
sound_task sound (bounds ∷ reference ∷ submission ∷ rules ∷ []) k h =
    sound bounds reference submission rules k h
sound_task sound _ k h = absurd h

pub corrections_spelled : TasksAreSound → CandidatesAreProper → SpelledByItsText
    → SpelledByNoOther → CorrectionsAreSpelled
corrections_spelled sound proper own none budget ts k cost fails edits p cert h =
    let good =
    proper k p cost (map edit_tree edits) (sound_task sound ts k h.task)
    h.answer.0.rewriting in
    let text = own p good in
    record {
      spelled = text.0;
      reads = text.1.0;
      alone = λ q reads. none p q good reads;
    }

-- WHAT IS WRITTEN where a correction is answered

module _ (law : CorrectionsAreSpelled) (g : GradeWords) (before after : Devices) where
  of_answer : (k : Task) (a : Answer) (cert : Option (List ℕ))
      → ComesOfFiles (grade_command g) before.shelf after.shelf
      (Answered (record { task = k; answer = a; cert = cert }))
      → status.Corrected ≡ status_of_answer a
      → Wrote before.sink after.sink (answer_text g.reference k a)
      → PrintsCorrection g before after
  of_answer k Correct cert comes is wrote =
      absurd (let z : status.Corrected ≡ status.Correct = is in cc)
  of_answer k (NoCorrection fails) cert comes is wrote =
      absurd (let z : status.Corrected ≡ status.NoCorrection = is in cc)
  of_answer k EmptyReference cert comes is wrote =
      absurd (let z : status.Corrected ≡ status.Refused = is in cc)
  of_answer k (Spent at_least budget) cert comes is wrote =
      absurd (let z : status.Corrected ≡ status.Spent = is in cc)
  of_answer k (Corrected cost fails edits p) cert comes is wrote = record {
    task = k;
    cost = cost;
    fails = fails;
    edits = edits;
    program = p;
    cert = cert;
    comes = comes;
    wrote = wrote;
    spelled = law g.budget comes.texts k cost fails edits p cert comes.comes.1;
  }

  of_outcome : (o : Outcome Graded)
      → ComesOfFiles (grade_command g) before.shelf after.shelf o
      → status.Corrected ≡ status_of (grade_command g) o
      → Wrote before.sink after.sink (text_of (grade_command g) o)
      → PrintsCorrection g before after
  of_outcome (Answered x) comes is wrote = of_answer x.task x.answer x.cert comes is wrote
  of_outcome (Refused r) comes is wrote =
      absurd (let z : status.Corrected ≡ status.Refused = is in cc)

  pub prints_correction : EndsBySaying (grade_command g) before after status.Corrected
      → PrintsCorrection g before after
  prints_correction ends =
      of_outcome ends.outcome ends.comes ends.says.0 ends.says.2
