-- What the status of `check` says of a text, in the words of a reader.
use Rattle.std.specs.List.{Contains}
use Rattle.std.specs.Prelude.{◌≡◌, ◌⊎◌, ℕ, List}
use Rattle.grade_io.specs.declared.status.Status.{Status}
use Rattle.grade_io.specs.declared.status.Status.TheVariants as status
use Rattle.mpy_tree.specs.Syntax.{Routine}
use Rattle.clause_base.specs.declared.formula.Formula.{Formula}
use Rattle.clause_base.specs.declared.log.Log.{Log}
use Rattle.choice_tree.specs.Choices.{member_of}
use Rattle.choice_tree.specs.Selections.{edits}
use Rattle.input_space.specs.declared.session.Session.{Session}
use Rattle.input_space.specs.Tasks.{HasWanted, IsBestOf, NoneAgrees, Task, tree_of}
use Rattle.cert_text.specs.declared.cert.Cert.{Cert}
use Rattle.cert_text.specs.declared.cert.Claim.TheVariants as claim
use Rattle.cert_text.specs.Certificates.{IsCertOf}
use Rattle.certificate_laws.specs.Right.{IsRight}
use Rattle.certificate_judge.specs.Looks.{IsBuilt, IsSpentLog}
use Rattle.certificate_judge.specs.VerdictLaws.{IsWholeClaim}

-- the claim of the certificate is true: its cost is that of a best rewriting, or none agrees
abbrev pub IsTrue : Task → Cert → Type 0
IsTrue k c =
    ((cost : ℕ) × (p : List Routine) × (c.claim ≡ claim.Cost cost)
    × IsBestOf k p cost (edits (member_of c.selection) (tree_of k) 0))
    ⊎ ((c.claim ≡ claim.Nothing) × NoneAgrees k)

-- the text is that of a certificate whose claim is true
pub record IsAcceptedText (k : Task) (text : List ℕ) : Type 0 where
  pub cert : Cert
  pub spelled : IsCertOf text cert
  pub wanted : HasWanted k
  pub claimed : IsTrue k cert

-- a question that was asked anew was left open: its formula isn't refuted by as many clauses as are
-- allowed
pub record HasOpenQuestion (k : Task) (c : Cert) : Type 0 where
  pub one : Session
  pub stands : Contains c.sessions one
  pub built : Formula
  pub built_so : IsBuilt k c.cases one.query built
  pub log : Log
  pub left : IsSpentLog k one.query built log

-- a right certificate of a cost, or of no rewriting, isn't rejected but for such a question
abbrev pub IsRejectedText : Task → List ℕ → Type 0
IsRejectedText k text =
    (c : Cert) (budget : ℕ) → IsCertOf text c → IsRight k budget c → IsWholeClaim c.claim
    → HasOpenQuestion k c

abbrev pub IsChecked : Task → List ℕ → Status → Type 0
IsChecked k text status.Correct = IsAcceptedText k text
IsChecked k text status.Rejected = IsRejectedText k text
IsChecked k text status.NoMemory = Unit {0}
IsChecked k text status.Corrected = ⊥
IsChecked k text status.NoCorrection = ⊥
IsChecked k text status.Spent = ⊥
IsChecked k text status.Refused = ⊥
IsChecked k text status.ReadFailed = ⊥
IsChecked k text status.WriteFailed = ⊥
IsChecked k text status.Usage = ⊥
IsChecked k text status.StoreFailed = ⊥
