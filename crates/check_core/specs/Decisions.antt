-- What is decided for the five texts of `check`: the first refusal, or what is said of the
-- certificate that is judged for their task.
use Rattle.std.specs.Prelude.{◌≡◌, ◌+◌, ℕ, List, [], ◌∷◌, slice_get, Some}
use Rattle.mpy_tree.specs.declared.refusal.Source.{Source}
use Rattle.mpy_tree.specs.declared.refusal.Source.TheVariants as source
use Rattle.clause_base.specs.declared.formula.Formula.{Formula}
use Rattle.clause_base.specs.declared.log.Log.{Log}
use Rattle.input_space.specs.declared.session.Session.{Session}
use Rattle.input_space.specs.Tasks.{Task}
use Rattle.task_read.specs.Steps.{Step}
use Rattle.task_read.specs.TaskSteps.{task_step}
use Rattle.cert_text.specs.declared.cert.Cert.{Cert}
use Rattle.cert_text.specs.declared.cert.Claim.TheVariants as claim
use Rattle.cert_text.specs.Certificates.{IsCertOf, StopsAt, cert_with}
use Rattle.certificate_judge.specs.declared.verdict.Shown.TheVariants as shown
use Rattle.certificate_judge.specs.declared.verdict.Verdict.{Verdict}
use Rattle.certificate_judge.specs.declared.verdict.Verdict.TheVariants as verdict
use Rattle.certificate_judge.specs.Looks.{session_with}
use Rattle.certificate_judge.specs.Verdicts.{IsKnownBy, IsVerdict}

-- what the five texts are, in order
abbrev pub check_sources : List Source
check_sources =
    source.Bounds ∷ source.Reference ∷ source.Submission ∷ source.Rules ∷ source.Cert ∷ []

-- texts that aren't those of the command's files
abbrev pub never : {A : Type 0} → Step A
never = record { gives = λ a. ⊥; refuses = λ r. ⊥ }

-- the task that the first four texts spell
abbrev pub sources_step : List (List ℕ) → Step Task
sources_step (bounds ∷ reference ∷ submission ∷ rules ∷ cert ∷ []) =
    task_step bounds reference submission rules
sources_step _ = never

-- the text of the certificate
abbrev pub cert_in : List (List ℕ) → List ℕ
cert_in (bounds ∷ reference ∷ submission ∷ rules ∷ cert ∷ []) = cert
cert_in _ = []

-- What is said of a text: that it isn't of the form of a certificate, or the verdict on the one
-- whose text it is, and what is written behind it.
pub data Said : Type 0 where
  NoForm : (line : ℕ) → Said
  Judged : (cert : Cert) (verdict : Verdict) (more : List ℕ) → Said

-- the certificate of a question that was asked anew and left open: the cases of the judged one, the
-- question, the formula that was built for it, and the log
abbrev pub left_open : Cert → Session → Formula → Log → Cert
left_open c x built log =
    cert_with (claim.Spent 200000) [] c.cases (session_with x.query built log ∷ [])

-- its text stands behind the verdict that says so
pub record IsLeftOpen (c : Cert) (session : ℕ) (built : Formula) (log : Log) (more : List ℕ)
    : Type 0 where
  pub place : ℕ
  pub counted : session ≡ place + 1
  pub one : Session
  pub at : slice_get c.sessions place ≡ Some one
  pub text : IsCertOf more (left_open c one built log)

abbrev pub IsMore : Cert → Verdict → List ℕ → Type 0
IsMore c (verdict.Accepted cost program anew) more = more ≡ []
IsMore c (verdict.AcceptedNone anew) more = more ≡ []
IsMore c (verdict.WrongCase case) more = more ≡ []
IsMore c verdict.WrongCost more = more ≡ []
IsMore c verdict.WrongClaim more = more ≡ []
IsMore c (verdict.OtherFormula session clause built (shown.Values values)) more = more ≡ []
IsMore c (verdict.OtherFormula session clause built (shown.Spent log)) more =
    IsLeftOpen c session built log more
IsMore c (verdict.BadStep session step) more = more ≡ []
IsMore c verdict.NoMemory more = ⊥

-- this is said of the text, where it is judged for a task
abbrev pub IsSaidOf : Task → List ℕ → Said → Type 0
IsSaidOf k text (NoForm line) =
    StopsAt text line × ((c : Cert) → IsCertOf text c → ⊥)
IsSaidOf k text (Judged c v more) =
    IsCertOf text c × IsVerdict k c v × IsKnownBy k c v × IsMore c v more

-- a task, and what is said of a text for it
pub record Checked : Type 0 where
  pub task : Task
  pub said : Said

-- the texts spell a task that nothing refuses, and this is said of the certificate
pub record IsCheckedAs (ts : List (List ℕ)) (x : Checked) : Type 0 where
  pub task : (sources_step ts).gives x.task
  pub said : IsSaidOf x.task (cert_in ts) x.said
