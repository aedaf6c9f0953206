-- What is told of a listed file is what its texts decide.
use Rattle.std.proofs.Common.{◌≡◌, ◌≢◌, ℕ, List, [], ◌∷◌, None, Result, Ok, Err, IfErr, IfOk, ap, refl, sym, subst, ◌∙◌}
use Rattle.grade_io.specs.declared.status.Status.{Status}
use Rattle.grade_io.specs.declared.status.Status.TheVariants as status
use Rattle.source_files.specs.declared.stop.Stop.{Stop}
use Rattle.source_files.specs.declared.stop.Stop.TheVariants as stop
use Rattle.file_commands.specs.Commands.{Outcome, Answered, Refused, status_of}
use Rattle.file_commands.specs.Reports.{IsFound, bytes_of}
use Rattle.file_commands.specs.declared.report.Report.{Report}
use Rattle.feedback_text.specs.Answers.{Answer, Correct, Corrected, NoCorrection, EmptyReference, Spent}
use Rattle.grade_core.specs.Commands as grade
use Rattle.grade_core.specs.Words.{GradeWords}
use Rattle.class_text.specs.Entries.{Entry}
use Rattle.class_text.specs.EntryViews.{entry_of}
use Rattle.class_text.specs.declared.entry.Entry as code
use Rattle.class_run.specs.Classes.{Shared}
use Rattle.class_core.specs.Gradings.{IsGradedFile, command_for, task_texts, told_certificate}
use Rattle.class_core.specs.Told.{TellsFound}
use Rattle.class_core.specs.Words.{ClassWords, grade_words}

none_told : (s : Status) → told_certificate s None ≡ None
none_told status.Correct = refl
none_told status.Corrected = refl
none_told status.NoCorrection = refl
none_told status.Spent = refl
none_told status.Refused = refl
none_told status.ReadFailed = refl
none_told status.WriteFailed = refl
none_told status.NoMemory = refl
none_told status.Usage = refl
none_told status.StoreFailed = refl
none_told status.Rejected = refl

pub graded_file : (w : ClassWords) (t : Shared) (name text : List ℕ) (found : Result Report Stop) (x : Entry) → IsFound (command_for w name) (task_texts t text) found
    → TellsFound (grade_words w name) found x → IsGradedFile w t name text x
graded_file w t name text (Ok r) x is told = record {
  outcome = Answered is.answer;
  decided = is.decided;
  status_is = told.status_is ∙ is.shows.status;
  report_is = told.report_is ∙ is.shows.text;
  certificate_is = told.certificate_is ∙ ap (λ s. told_certificate s (bytes_of r)) (sym told.status_is) ∙ ap (told_certificate x.status) is.shows.kept;
}
graded_file w t name text (Err (stop.Refused q)) x is told = record {
  outcome = Refused q;
  decided = is;
  status_is = told.status_is;
  report_is = told.report_is;
  certificate_is = told.certificate_is ∙ sym (none_told x.status);
}
graded_file w t name text (Err stop.Failed) x is told = absurd told
graded_file w t name text (Err stop.NoMemory) x is told = absurd told

own_status : (a : Answer) → grade.status_of a ≢ status.ReadFailed
own_status Correct e = cc
own_status (Corrected cost fails edits p) e = cc
own_status (NoCorrection fails) e = cc
own_status EmptyReference e = cc
own_status (Spent n b) e = cc

refused : status.Refused ≢ status.ReadFailed
refused e = cc

abbrev status_in : ClassWords → List ℕ → Outcome grade.Graded → Status
status_in w name o = status_of (command_for w name) o

own_outcome : (w : ClassWords) (t : Shared) (name text : List ℕ) (x : Entry) (is : IsGradedFile w t name text x) (o : Outcome grade.Graded) → is.outcome ≡ o → x.status ≢ status.ReadFailed
own_outcome w t name text x is (Answered a) same unread = own_status a.answer (sym (ap (status_in w name) same) ∙ sym is.status_is ∙ unread)
own_outcome w t name text x is (Refused q) same unread = refused (sym (ap (status_in w name) same) ∙ sym is.status_is ∙ unread)

pub was_read : (w : ClassWords) (t : Shared) (name text : List ℕ) (x : Entry) → IsGradedFile w t name text x → x.status ≢ status.ReadFailed
was_read w t name text x is = own_outcome w t name text x is is.outcome refl

-- the texts decide something, or memory lacked
pub no_failure : (w : ClassWords) (t : Shared) (name text : List ℕ) (found : Result Report Stop) → IsFound (command_for w name) (task_texts t text) found → IfErr found (λ e. e ≢ stop.Failed)
no_failure w t name text (Ok r) is = tt
no_failure w t name text (Err (stop.Refused q)) is = λ e. cc
no_failure w t name text (Err stop.Failed) is = absurd is
no_failure w t name text (Err stop.NoMemory) is = λ e. cc

-- where there was memory for an entry, it is that of the file
pub entry_graded : {E : Type 0} (w : ClassWords) (t : Shared) (name text : List ℕ) (g : GradeWords) (ts : List (List ℕ)) (found : Result Report Stop) (r : Result code.Entry E)
    → g ≡ grade_words w name → ts ≡ task_texts t text → IsFound (grade.grade_command g) ts found → IfOk r (λ e. TellsFound g found (entry_of e))
    → IfOk r (λ e. IsGradedFile w t name text (entry_of e))
entry_graded w t name text g ts found (Ok e) same is so told =
    graded_file w t name text found (entry_of e)
    (subst (λ (h : GradeWords). IsFound (grade.grade_command h) (task_texts t text) found) same (subst (λ us. IsFound (grade.grade_command g) us found) is so))
    (subst (λ (h : GradeWords). TellsFound h found (entry_of e)) same told)
entry_graded w t name text g ts found (Err x) same is so told = tt

pub four_equal : (a b x c s t u : List ℕ) → a ≡ s → b ≡ t → c ≡ u → a ∷ b ∷ x ∷ c ∷ [] ≡ s ∷ t ∷ x ∷ u ∷ []
four_equal a b x c s t u e f g = cc
