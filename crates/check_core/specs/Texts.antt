-- The bytes of verdicts. Each line ends with byte 10.
use Rattle.std.specs.Prelude.{ℕ, zero, suc, List, [], ◌++◌, codes}
use Rattle.std.specs.Fmt.{decimal}
use Rattle.grade_io.specs.declared.status.Status.{Status}
use Rattle.grade_io.specs.declared.status.Status.TheVariants as status
use Rattle.mpy_tree.specs.Printing.{program_text}
use Rattle.mpy_tree.specs.View.{routines_of}
use Rattle.cert_text.specs.declared.cert.Cert.{Cert}
use Rattle.cert_text.specs.Certificates.{case_line}
use Rattle.certificate_judge.specs.declared.verdict.Verdict.{Verdict}
use Rattle.certificate_judge.specs.declared.verdict.Verdict.TheVariants as verdict
use Rattle.check_core.specs.Decisions.{Said, NoForm, Judged}

-- how many questions were asked anew, if any were
abbrev pub anew_line : ℕ → List ℕ
anew_line zero = []
anew_line (suc n) = codes "asked anew " ++ decimal (suc n) ++ codes "\n"

-- a verdict; of a case the line is told, of anything else the place
abbrev pub verdict_text : Cert → Verdict → List ℕ
verdict_text c (verdict.Accepted cost program anew) =
    codes "accepted cost " ++ decimal cost ++ codes "\n" ++ anew_line anew ++ codes "program\n"
    ++ program_text (routines_of program)
verdict_text c (verdict.AcceptedNone anew) = codes "accepted none\n" ++ anew_line anew
verdict_text c (verdict.WrongCase case) =
    codes "rejected WrongCase line " ++ (decimal (case_line c case) ++ codes "\n")
verdict_text c verdict.WrongCost = codes "rejected WrongCost\n"
verdict_text c verdict.WrongClaim = codes "rejected WrongClaim\n"
verdict_text c (verdict.OtherFormula session clause built shown) =
    codes "rejected OtherFormula session "
    ++ (decimal session ++ (codes " clause " ++ (decimal clause ++ codes "\n")))
verdict_text c (verdict.BadStep session step) =
    codes "rejected BadStep session "
    ++ (decimal session ++ (codes " step " ++ (decimal step ++ codes "\n")))
verdict_text c verdict.NoMemory = []

abbrev pub said_text : Said → List ℕ
said_text (NoForm line) =
    codes "rejected CertSyntax line " ++ (decimal line ++ codes "\n")
said_text (Judged c v more) = verdict_text c v ++ more

-- accepted or rejected; where memory lacks, nothing is said
abbrev pub verdict_status : Verdict → Status
verdict_status (verdict.Accepted cost program anew) = status.Correct
verdict_status (verdict.AcceptedNone anew) = status.Correct
verdict_status (verdict.WrongCase case) = status.Rejected
verdict_status verdict.WrongCost = status.Rejected
verdict_status verdict.WrongClaim = status.Rejected
verdict_status (verdict.OtherFormula session clause built shown) = status.Rejected
verdict_status (verdict.BadStep session step) = status.Rejected
verdict_status verdict.NoMemory = status.Rejected

abbrev pub status_of : Said → Status
status_of (NoForm line) = status.Rejected
status_of (Judged c v more) = verdict_status v
