-- Laws of certificates.
use Rattle.std.specs.Prelude.{◌≡◌, ℕ, ◌-◌, ◌<◌, List, IsSomeAnd, Some, slice_get}
use Rattle.input_space.specs.declared.case.Case.{Case}
use Rattle.cert_text.specs.declared.cert.Cert.{Cert}
use Rattle.cert_text.specs.Certificates.{IsCertOf, SpellsCert, case_line}
use Rattle.cert_text.specs.LineForms.{SpellsCaseLine}

-- a text is of the form of one certificate at most
abbrev pub OneCert : Type 0
OneCert = (text : List ℕ) (c d : Cert) → IsCertOf text c → IsCertOf text d → c ≡ d

-- in lines that spell a certificate the line of a case spells that case; line and place are counted
-- from 1
abbrev pub CaseByLine : Type 0
CaseByLine = (lines : List (List ℕ)) (c : Cert) (place : ℕ) (x : Case) → SpellsCert lines c
    → 0 < place → slice_get c.cases (place - 1) ≡ Some x
    → IsSomeAnd (slice_get lines (case_line c place - 1)) (λ line. SpellsCaseLine line x)
