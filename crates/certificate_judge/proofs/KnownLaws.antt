-- What is known of a task by a verdict.
use Rattle.mpy_tree.specs.View.{routines_of}
use Rattle.input_space.specs.Tasks.{IsSound, Task}
use Rattle.coding_laws.specs.Alphabets.{HasPrintable}
use Rattle.cert_text.specs.declared.cert.Cert.{Cert}
use Rattle.certificate_laws.specs.CertificateLaws.{CostShowsBest, NothingShowsNone}
use Rattle.certificate_judge.specs.declared.verdict.Verdict.{Verdict}
use Rattle.certificate_judge.specs.declared.verdict.Verdict.TheVariants as verdict
use Rattle.certificate_judge.specs.Passing.{with_sessions}
use Rattle.certificate_judge.specs.Verdicts.{IsKnownBy, IsVerdict}

pub known : CostShowsBest → NothingShowsNone → (k : Task) (c : Cert) (v : Verdict) → IsSound k → HasPrintable k.bounds → IsVerdict k c v → IsKnownBy k c v
known best none k c (verdict.Accepted cost program anew) sound printable h =
    let a = h.3 in
    let shown = best k 0 (with_sessions c a.sessions) cost sound printable (a.right 0) h.1 in
    (shown.0, shown.1.best (routines_of program) h.2)
known best none k c (verdict.AcceptedNone anew) sound printable h =
    let a = h.2 in
    none k 0 (with_sessions c a.sessions) sound printable (a.right 0) h.1
known best none k c (verdict.WrongCase case) sound printable h = tt
known best none k c verdict.WrongCost sound printable h = tt
known best none k c verdict.WrongClaim sound printable h = tt
known best none k c (verdict.OtherFormula session clause built shown) sound printable h = tt
known best none k c (verdict.BadStep session step) sound printable h = tt
known best none k c verdict.NoMemory sound printable h = tt
