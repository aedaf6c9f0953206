-- What follows from how `check` ends.
use Rattle.std.proofs.Common.{◌≡◌, ℕ, zero, suc, List, inl, inr, refl, sym, subst}
use Rattle.grade_io.specs.Devices.{Devices}
use Rattle.grade_io.specs.declared.status.Status.{Status}
use Rattle.grade_io.specs.declared.status.Status.TheVariants as status
use Rattle.mpy_tree.specs.View.{routines_of}
use Rattle.mpy_tree.specs.declared.refusal.Refusal.{Refusal}
use Rattle.clause_base.specs.declared.formula.Formula.{Formula}
use Rattle.clause_base.specs.declared.log.Log.{Log}
use Rattle.input_space.specs.Tasks.{Task}
use Rattle.input_space.proofs.Elements.{contained_at}
use Rattle.source_files.specs.Texts.{Tells}
use Rattle.file_commands.specs.Claims.{AreTold, IsSaid, NoFault}
use Rattle.file_commands.specs.Ends.{Ends, IsFirstRefusal}
use Rattle.file_commands.proofs.Claims as command
use Rattle.file_commands.proofs.Endings.{IsOwn}
use Rattle.cert_text.specs.declared.cert.Cert.{Cert}
use Rattle.cert_text.specs.CertLaws.{OneCert}
use Rattle.cert_text.specs.Certificates.{IsCertOf}
use Rattle.certificate_laws.specs.Right.{IsRight}
use Rattle.certificate_judge.specs.declared.verdict.Shown.TheVariants as shown
use Rattle.certificate_judge.specs.declared.verdict.Verdict.{Verdict}
use Rattle.certificate_judge.specs.declared.verdict.Verdict.TheVariants as verdict
use Rattle.certificate_judge.specs.VerdictLaws.{IsWholeClaim, RightIsAccepted}
use Rattle.certificate_judge.specs.Verdicts.{IsKnownBy, IsVerdict}
use Rattle.check_core.specs.Claims.{HasOpenQuestion, IsChecked}
use Rattle.check_core.specs.Commands.{check_command, files_of}
use Rattle.check_core.specs.Decisions.{Checked, IsCheckedAs, IsMore, IsSaidOf, Judged, NoForm, Said, cert_in, sources_step}
use Rattle.check_core.specs.Texts.{status_of, verdict_status}
use Rattle.check_core.specs.Words.{CheckWords}
use Rattle.check_core.proofs.OneChecking.{one_sources_step}

-- STATUSES

verdict_own : (v : Verdict) → IsOwn (verdict_status v)
verdict_own (verdict.Accepted cost program anew) = tt
verdict_own (verdict.AcceptedNone anew) = tt
verdict_own (verdict.WrongCase case) = tt
verdict_own verdict.WrongCost = tt
verdict_own verdict.WrongClaim = tt
verdict_own (verdict.OtherFormula session clause built shown) = tt
verdict_own (verdict.BadStep session step) = tt
verdict_own verdict.NoMemory = tt

pub own_status : (s : Said) → IsOwn (status_of s)
own_status (NoForm line) = tt
own_status (Judged c v more) = verdict_own v

verdict_no_usage : (v : Verdict) → status.Usage ≡ verdict_status v → ⊥
verdict_no_usage (verdict.Accepted cost program anew) e = cc
verdict_no_usage (verdict.AcceptedNone anew) e = cc
verdict_no_usage (verdict.WrongCase case) e = cc
verdict_no_usage verdict.WrongCost e = cc
verdict_no_usage verdict.WrongClaim e = cc
verdict_no_usage (verdict.OtherFormula session clause built shown) e = cc
verdict_no_usage (verdict.BadStep session step) e = cc
verdict_no_usage verdict.NoMemory e = cc

pub said_no_usage : (s : Said) → status.Usage ≡ status_of s → ⊥
said_no_usage (NoForm line) e = cc
said_no_usage (Judged c v more) e = verdict_no_usage v e

-- WHAT IS CHECKED

left_open : (k : Task) (c : Cert) (session clause : ℕ) (built : Formula) (log : Log)
    → IsVerdict k c (verdict.OtherFormula session clause built (shown.Spent log)) → HasOpenQuestion k c
left_open k c zero clause built log h = absurd h.1
left_open k c (suc place) clause built log h =
    let x = h.1.1 in
    record {
      one = x.0;
      stands = contained_at c.sessions place x.0 x.1;
      built = built;
      built_so = x.2.built_so;
      log = log;
      left = x.2.shown_so;
    }

module _ (law : RightIsAccepted) (one : OneCert) (k : Task) (text : List ℕ) where
  -- a rejected certificate isn't right, or a question was left open
  rejected : (c : Cert) (v : Verdict) → verdict_status v ≡ status.Rejected → IsVerdict k c v → (more : List ℕ) → IsMore c v more
      → (budget : ℕ) → IsRight k budget c → IsWholeClaim c.claim → HasOpenQuestion k c
  rejected c (verdict.Accepted cost program anew) is h more m budget right whole = cc
  rejected c (verdict.AcceptedNone anew) is h more m budget right whole = cc
  rejected c (verdict.WrongCase case) is h more m budget right whole = absurd (law k budget c (verdict.WrongCase case) right whole h)
  rejected c verdict.WrongCost is h more m budget right whole = absurd (law k budget c verdict.WrongCost right whole h)
  rejected c verdict.WrongClaim is h more m budget right whole = absurd (law k budget c verdict.WrongClaim right whole h)
  rejected c (verdict.OtherFormula session clause built (shown.Values values)) is h more m budget right whole =
      absurd (law k budget c (verdict.OtherFormula session clause built (shown.Values values)) right whole h)
  rejected c (verdict.OtherFormula session clause built (shown.Spent log)) is h more m budget right whole = left_open k c session clause built log h
  rejected c (verdict.BadStep session step) is h more m budget right whole = absurd (law k budget c (verdict.BadStep session step) right whole h)
  rejected c verdict.NoMemory is h more m budget right whole = absurd m

  -- the text is of one certificate alone
  again : (c : Cert) (v : Verdict) (more : List ℕ) → IsCertOf text c → verdict_status v ≡ status.Rejected → IsVerdict k c v → IsMore c v more
      → (d : Cert) (budget : ℕ) → IsCertOf text d → IsRight k budget d → IsWholeClaim d.claim → HasOpenQuestion k d
  again c v more spelled is h m d budget other right whole =
      let same : c ≡ d = one text c d spelled other in
      subst (HasOpenQuestion k) same
      (rejected c v is h more m budget (subst (IsRight k budget) (sym same) right) (subst (λ (e : Cert). IsWholeClaim e.claim) (sym same) whole))

  judged : (c : Cert) (v : Verdict) (more : List ℕ) → IsCertOf text c → IsVerdict k c v → IsKnownBy k c v → IsMore c v more → IsChecked k text (verdict_status v)
  judged c (verdict.Accepted cost program anew) more spelled h known m = record {
    cert = c;
    spelled = spelled;
    wanted = known.0;
    claimed = inl (cost, routines_of program, h.1, known.1);
  }
  judged c (verdict.AcceptedNone anew) more spelled h known m = record {
    cert = c;
    spelled = spelled;
    wanted = known.0;
    claimed = inr (h.1, known.1);
  }
  judged c (verdict.WrongCase case) more spelled h known m = λ d budget other right whole.
      again c (verdict.WrongCase case) more spelled refl h m d budget other right whole
  judged c verdict.WrongCost more spelled h known m = λ d budget other right whole.
      again c verdict.WrongCost more spelled refl h m d budget other right whole
  judged c verdict.WrongClaim more spelled h known m = λ d budget other right whole.
      again c verdict.WrongClaim more spelled refl h m d budget other right whole
  judged c (verdict.OtherFormula session clause built shown) more spelled h known m = λ d budget other right whole.
      again c (verdict.OtherFormula session clause built shown) more spelled refl h m d budget other right whole
  judged c (verdict.BadStep session step) more spelled h known m = λ d budget other right whole.
      again c (verdict.BadStep session step) more spelled refl h m d budget other right whole
  judged c verdict.NoMemory more spelled h known m = absurd m

  said : (s : Said) → IsSaidOf k text s → IsChecked k text (status_of s)
  said (NoForm line) h = λ d budget other right whole. absurd (h.1 d other)
  said (Judged c v more) h = judged c v more h.0 h.1 h.2 h.3

-- the texts spell the one task
checked_as : RightIsAccepted → OneCert → (ts : List (List ℕ)) (k : Task) (x : Checked) → (sources_step ts).gives k → IsCheckedAs ts x → IsChecked k (cert_in ts) (status_of x.said)
checked_as law one ts k x given h =
    let same : x.task ≡ k = (one_sources_step ts).gives x.task k h.task given in
    subst (λ (j : Task). IsChecked j (cert_in ts) (status_of x.said)) same (said law one x.task (cert_in ts) x.said h.said)

pub checked : RightIsAccepted → OneCert → (w : CheckWords) (ts : List (List ℕ)) (k : Task) (before after : Devices) (s : Status) → Ends (check_command w) before after s
    → AreTold before (files_of w) ts → (sources_step ts).gives k → NoFault before after → IsChecked k (cert_in ts) s
checked law one w ts k before after s ends told given sure =
    command.answered (check_command w) ts before after s (IsChecked k (cert_in ts)) tt (λ x decided wrote. checked_as law one ts k x given decided)
    (λ r refuses. (one_sources_step ts).not_both k r given refuses) ends told sure

pub refused : (w : CheckWords) (ts : List (List ℕ)) (r : Refusal) (before after : Devices) (s : Status) → Ends (check_command w) before after s
    → Tells before.shelf (files_of w) ts → IsFirstRefusal (check_command w) ts r → NoFault before after → IsSaid ((check_command w).line r) status.Refused before.sink after.sink s
refused w ts r before after s ends tells first sure =
    command.refused (check_command w) ts before after s r (λ x decided refuses. (one_sources_step ts).not_both x.task r decided.task refuses) (one_sources_step ts).refuses ends tells first sure
