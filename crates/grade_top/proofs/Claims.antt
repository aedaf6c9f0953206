-- What follows from how a command ends.
use Rattle.std.proofs.Common.{◌≡◌, ℕ, zero, suc, List, [], Option, inl, inr, refl, subst}
use Rattle.grade_io.specs.Devices.{Devices, ShelfState, SinkState, devices}
use Rattle.grade_io.specs.Says.{Says}
use Rattle.grade_io.specs.Written.{Wrote}
use Rattle.grade_io.specs.declared.status.Status.{Status}
use Rattle.grade_io.specs.declared.status.Status.TheVariants as status
use Rattle.mpy_tree.specs.declared.outcome.Outcome as run
use Rattle.mpy_tree.specs.declared.refusal.Refusal.{Refusal}
use Rattle.mpy_tree.specs.declared.refusal.Source.TheVariants as source
use Rattle.mpy_tree.specs.Refusals.{refusal_text}
use Rattle.input_space.specs.Tasks.{HasWanted, Task}
use Rattle.source_files.specs.Texts.{Tells}
use Rattle.file_commands.specs.Claims.{AreTold, IsSaid, NoFault}
use Rattle.file_commands.specs.Commands.{Answered}
use Rattle.file_commands.specs.Ends.{Ends, IsFirstRefusal}
use Rattle.file_commands.proofs.Claims as claim
use Rattle.file_commands.proofs.Endings.{said}
use Rattle.feedback_text.specs.Answers.{Answer, Correct, Corrected, NoCorrection, EmptyReference, Spent}
use Rattle.grade_core.specs.Claims.{IsGraded, IsRefusedOrSpent}
use Rattle.grade_core.specs.Commands.{Graded, IsGradedAs, answer_text, empty_reference, status_of}
use Rattle.grade_core.specs.Decisions.{task_step}
use Rattle.check_core.proofs.CheckClaims.{said_no_usage}
use Rattle.formula_commands.proofs.SatClaims as sat
use Rattle.list_command.specs.Decisions.{AllAnswer, AsGraded, Best, Listed, TooMany, Unlisted}
use Rattle.list_command.specs.Texts.{all_status}
use Rattle.formula_commands.proofs.UnsatClaims as unsat
use Rattle.grade_core.proofs.GradeClaims.{empty_as, empty_found, graded_as}
use Rattle.grade_core.proofs.OneGrading.{one_task_step}
use Rattle.grade_top.specs.Commands.{AnswerOf, file_command, files_of, line_of, run_command, run_files, sample_budget, sample_command, sample_word, usage_command}
use Rattle.grade_top.specs.Decisions.{run_step, sample_texts}
use Rattle.grade_top.specs.Reports.{run_text, sample_report, usage_text}
use Rattle.grade_top.specs.Words.{Command, Grade, Check, Run, Sample, All, Pick, Sat, Unsat, Nothing, RunWords}
use Rattle.grade_top.proofs.OneOutcome.{not_both, one_refuses, one_run_step}

-- USAGE

answer_no_usage : (a : Answer) → status.Usage ≡ status_of a → ⊥
answer_no_usage Correct e = cc
answer_no_usage (Corrected cost fails edits p) e = cc
answer_no_usage (NoCorrection fails) e = cc
answer_no_usage EmptyReference e = cc
answer_no_usage (Spent n b) e = cc

all_no_usage : (a : AllAnswer) → status.Usage ≡ all_status a → ⊥
all_no_usage (Listed k zero (Best changes whole)) e = cc
all_no_usage (Listed k (suc n) (Best changes whole)) e = cc
all_no_usage (Listed k cost TooMany) e = cc
all_no_usage (Listed k cost (Unlisted cert)) e = cc
all_no_usage (AsGraded x) e = answer_no_usage x.answer e

never_usage : (c : Command) → (c ≡ Nothing → ⊥) → (a : AnswerOf c) → status.Usage ≡ (file_command c).status a → ⊥
never_usage (Grade g) some a e = answer_no_usage a.answer e
never_usage (Check w) some a e = said_no_usage a.said e
never_usage (Run w) some a e = cc
never_usage (Sample n) some a e = answer_no_usage a.answer e
never_usage (All w) some a e = all_no_usage a e
never_usage (Pick w) some a e = cc
never_usage (Sat w) some a e = sat.no_usage a e
never_usage (Unsat w) some a e = unsat.no_usage a e
never_usage Nothing some a e = some refl

-- a command never ends with the usage
pub no_usage : (c : Command) (before after : Devices) (s : Status) → (c ≡ Nothing → ⊥) → Ends (file_command c) before after s → s ≡ status.Usage → ⊥
no_usage c before after s some ends is = claim.never_usage (file_command c) before after (never_usage c some) (subst (Ends (file_command c) before after) is ends)

-- the usage is said
pub usage_ends : (shelf : ShelfState) (before after : SinkState) (s : Status) → Says usage_text status.Usage before after s → Ends usage_command (devices shelf before) (devices shelf after) s
usage_ends shelf before after s says =
    said usage_command (λ a. tt) (devices shelf before) (devices shelf after) (Answered tt) s refl (record { texts = []; held = tt; comes = (tt, tt) }) says (record { bytes = refl; files = refl })

-- ANSWERS

pub sampled : (n : ℕ) (k : Task) (before after : Devices) (s : Status) → Ends (sample_command n) before after s → (task_step (sample_texts n)).gives k → NoFault before after → IsGraded k s
sampled n k before after s ends given sure =
    claim.answered (sample_command n) [] before after s (IsGraded k) tt (λ x decided wrote. graded_as sample_budget (sample_texts n) k x given decided)
    (λ r refuses. (one_task_step (sample_texts n)).not_both k r given refuses) ends (record { tells = tt; fit = tt }) sure

-- a sample whose reference gives no value: what `grade` writes is written
empty_text : (n : ℕ) (k : Task) (a : Answer) (cert : Option (List ℕ)) → a ≡ EmptyReference → sample_report n k a cert ≡ answer_text (sample_word source.Reference) k a
empty_text n k Correct cert is = cc
empty_text n k (Corrected cost fails edits p) cert is = cc
empty_text n k (NoCorrection fails) cert is = refl
empty_text n k EmptyReference cert is = refl
empty_text n k (Spent at_least budget) cert is = cc

empty_as_sample : (n : ℕ) (k : Task) (x : Graded) (before after : SinkState) → (task_step (sample_texts n)).gives k → (HasWanted k → ⊥) → IsGradedAs sample_budget (sample_texts n) x
    → Wrote before after (sample_report n x.task x.answer x.cert) → IsRefusedOrSpent (refusal_text (sample_word source.Reference) (empty_reference k)) before after (status_of x.answer)
empty_as_sample n k x before after given none decided wrote = elim (empty_found sample_budget (sample_texts n) k x given none decided) [
  | inl is ↦ empty_as (sample_word source.Reference) sample_budget (sample_texts n) k x before after given none decided
      (subst (Wrote before after) (empty_text n x.task x.answer x.cert is) wrote)
  | inr spent ↦ inr spent
]

pub empty_sample : (n : ℕ) (k : Task) (before after : Devices) (s : Status) → Ends (sample_command n) before after s → (task_step (sample_texts n)).gives k → (HasWanted k → ⊥)
    → NoFault before after → IsRefusedOrSpent (refusal_text (sample_word source.Reference) (empty_reference k)) before.sink after.sink s
empty_sample n k before after s ends given none sure =
    claim.answered (sample_command n) [] before after s (IsRefusedOrSpent (refusal_text (sample_word source.Reference) (empty_reference k)) before.sink after.sink) (inl tt)
    (λ x decided wrote. empty_as_sample n k x before.sink after.sink given none decided wrote)
    (λ r refuses. (one_task_step (sample_texts n)).not_both k r given refuses) ends (record { tells = tt; fit = tt }) sure

pub ran : (w : RunWords) (ts : List (List ℕ)) (o : run.Outcome) (before after : Devices) (s : Status) → Ends (run_command w) before after s → AreTold before (run_files w) ts
    → (run_step w ts).gives o → NoFault before after → IsSaid (run_text o) status.Correct before.sink after.sink s
ran w ts o before after s ends told given sure =
    claim.answered (run_command w) ts before after s (IsSaid (run_text o) status.Correct before.sink after.sink) tt
    (λ p decided wrote. (refl, subst (λ (q : run.Outcome). Wrote before.sink after.sink (run_text q)) ((one_run_step w ts).gives p o decided given) wrote))
    (λ r refuses. (one_run_step w ts).not_both o r given refuses) ends told sure

pub refused : (c : Command) (ts : List (List ℕ)) (r : Refusal) (before after : Devices) (s : Status) → Ends (file_command c) before after s
    → Tells before.shelf (files_of c) ts → IsFirstRefusal (file_command c) ts r → NoFault before after → IsSaid (line_of c r) status.Refused before.sink after.sink s
refused c ts r before after s ends tells first sure =
    claim.refused (file_command c) ts before after s r (λ a decided refuses. not_both c ts r a decided refuses) (one_refuses c ts) ends tells first sure
