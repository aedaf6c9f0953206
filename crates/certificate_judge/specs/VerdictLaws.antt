-- What verdicts say of right certificates.
use Rattle.std.specs.Prelude.{ℕ}
use Rattle.input_space.specs.Tasks.{Task}
use Rattle.cert_text.specs.declared.cert.Cert.{Cert}
use Rattle.cert_text.specs.declared.cert.Claim.{Claim}
use Rattle.cert_text.specs.declared.cert.Claim.TheVariants as claim
use Rattle.certificate_laws.specs.Right.{IsRight}
use Rattle.certificate_judge.specs.declared.verdict.Shown.{Shown}
use Rattle.certificate_judge.specs.declared.verdict.Shown.TheVariants as shown
use Rattle.certificate_judge.specs.declared.verdict.Verdict.{Verdict}
use Rattle.certificate_judge.specs.declared.verdict.Verdict.TheVariants as verdict
use Rattle.certificate_judge.specs.Passing.{IsAccepted}
use Rattle.certificate_judge.specs.Verdicts.{IsVerdict}

-- with no session made anew the certificate is right as it stands
abbrev pub RightAsItStands : Type 0
RightAsItStands =
    (k : Task) (budget : ℕ) (c : Cert) → IsAccepted k c 0 → IsRight k budget c

-- a claim of a cost, or that no rewriting agrees
abbrev pub IsWholeClaim : Claim → Type 0
IsWholeClaim (claim.Cost n) = Unit {0}
IsWholeClaim claim.Nothing = Unit {0}
IsWholeClaim (claim.Spent n) = ⊥

-- a question that is asked anew was left open
abbrev pub IsLeftOpen : Shown → Type 0
IsLeftOpen (shown.Values values) = ⊥
IsLeftOpen (shown.Spent log) = Unit {0}

-- the verdict accepts, or a question that was asked anew was left open, or memory lacked
abbrev pub PassesOrLacks : Verdict → Type 0
PassesOrLacks (verdict.Accepted cost program anew) = Unit {0}
PassesOrLacks (verdict.AcceptedNone anew) = Unit {0}
PassesOrLacks (verdict.WrongCase case) = ⊥
PassesOrLacks verdict.WrongCost = ⊥
PassesOrLacks verdict.WrongClaim = ⊥
PassesOrLacks (verdict.OtherFormula session clause built shown) = IsLeftOpen shown
PassesOrLacks (verdict.BadStep session step) = ⊥
PassesOrLacks verdict.NoMemory = Unit {0}

-- So a right certificate of a cost, or of no rewriting, is accepted.
abbrev pub RightIsAccepted : Type 0
RightIsAccepted =
    (k : Task) (budget : ℕ) (c : Cert) (v : Verdict) → IsRight k budget c
    → IsWholeClaim c.claim → IsVerdict k c v → PassesOrLacks v
