-- The reports of verdicts.
use Rattle.std.specs.Prelude.{◌≡◌, ◌<◌, ◌≤◌, ℕ, ◌+◌, List, ◌++◌, None, Some, length, slice_get}
use Rattle.clause_base.specs.declared.formula.Formula.{Formula}
use Rattle.clause_base.specs.declared.log.Log.{Log}
use Rattle.input_space.specs.declared.session.Session.{Session}
use Rattle.input_space.specs.Tasks.{Task}
use Rattle.cert_text.specs.declared.cert.Cert.{Cert}
use Rattle.cert_text.specs.Limits.{KeepsSession}
use Rattle.certificate_judge.specs.declared.verdict.Shown.TheVariants as shown
use Rattle.certificate_judge.specs.declared.verdict.Verdict.{Verdict}
use Rattle.certificate_judge.specs.declared.verdict.Verdict.TheVariants as verdict
use Rattle.certificate_judge.specs.Looks.{session_with}
use Rattle.certificate_judge.specs.Verdicts.{IsKnownBy, IsVerdict}
use Rattle.file_commands.specs.declared.report.Report.{Report}
use Rattle.file_commands.specs.Reports.{bytes_of}
use Rattle.check_core.specs.Decisions.{IsMore}
use Rattle.check_core.specs.Texts.{verdict_status, verdict_text}

-- the question of the session at a place, counted from 1, keeps the limits of the form with this
-- formula and this log
pub record KeepsLeft (c : Cert) (session : ℕ) (built : Formula) (log : Log) : Type 0 where
  pub place : ℕ
  pub counted : session ≡ place + 1
  pub one : Session
  pub at : slice_get c.sessions place ≡ Some one
  pub keeps : KeepsSession (length c.cases) (session_with one.query built log)

-- what a verdict leaves open keeps the limits of the form
abbrev pub KeepsMore : Cert → Verdict → Type 0
KeepsMore c (verdict.Accepted cost program anew) = Unit {0}
KeepsMore c (verdict.AcceptedNone anew) = Unit {0}
KeepsMore c (verdict.WrongCase case) = Unit {0}
KeepsMore c verdict.WrongCost = Unit {0}
KeepsMore c verdict.WrongClaim = Unit {0}
KeepsMore c (verdict.OtherFormula session clause built (shown.Values values)) = Unit {0}
KeepsMore c (verdict.OtherFormula session clause built (shown.Spent log)) =
    KeepsLeft c session built log
KeepsMore c (verdict.BadStep session step) = Unit {0}
KeepsMore c verdict.NoMemory = ⊥

-- a case that is named is one of the certificate's
abbrev pub NamesCase : Cert → Verdict → Type 0
NamesCase c (verdict.Accepted cost program anew) = Unit {0}
NamesCase c (verdict.AcceptedNone anew) = Unit {0}
NamesCase c (verdict.WrongCase case) = (0 < case) × (case ≤ length c.cases)
NamesCase c verdict.WrongCost = Unit {0}
NamesCase c verdict.WrongClaim = Unit {0}
NamesCase c (verdict.OtherFormula session clause built shown) = Unit {0}
NamesCase c (verdict.BadStep session step) = Unit {0}
NamesCase c verdict.NoMemory = Unit {0}

-- the report of the verdict on a certificate
pub record IsReportOf (k : Task) (c : Cert) (r : Report) : Type 0 where
  pub verdict : Verdict
  pub more : List ℕ
  pub stands : IsVerdict k c verdict
  pub known : IsKnownBy k c verdict
  pub behind : IsMore c verdict more
  pub text_is : r.text.items ≡ verdict_text c verdict ++ more
  pub status_is : r.status ≡ verdict_status verdict
  pub kept_is : bytes_of r ≡ None
