-- What each verdict says of a certificate.
use Rattle.std.specs.Prelude.{◌≡◌, ℕ, zero, suc, All, length, slice_get, take, Some}
use Rattle.std.specs.List.{Contains}
use Rattle.mpy_tree.specs.View.{routines_of}
use Rattle.choice_tree.specs.Choices.{member_of}
use Rattle.choice_tree.specs.Selections.{edits}
use Rattle.input_space.specs.declared.session.Session.{Session}
use Rattle.input_space.specs.Tasks.{HasWanted, IsBestOf, NoneAgrees, Task, tree_of}
use Rattle.input_space.specs.TaskSpace.{wanted_inputs}
use Rattle.cert_text.specs.declared.cert.Cert.{Cert}
use Rattle.cert_text.specs.declared.cert.Claim.{Claim}
use Rattle.cert_text.specs.declared.cert.Claim.TheVariants as claim
use Rattle.certificate_laws.specs.BestLaws.{Makes}
use Rattle.certificate_laws.specs.Right.{AreRefuted, IsOfCost, least_queries, none_queries}
use Rattle.certificate_judge.specs.declared.verdict.Verdict.{Verdict}
use Rattle.certificate_judge.specs.declared.verdict.Verdict.TheVariants as verdict
use Rattle.certificate_judge.specs.Looks.{IsBad, IsOther}
use Rattle.certificate_judge.specs.Passing.{IsAccepted, Pass}
use Rattle.certificate_judge.specs.Places.{IsFirstOff}

-- each case is an input on which the reference gives a value
abbrev pub AreInputs : Task → Cert → Type 0
AreInputs k c = All (Contains (wanted_inputs k)) c.cases

-- the case at this place, counted from 1, is the first that isn't
abbrev pub IsWrongCase : Task → Cert → ℕ → Type 0
IsWrongCase k c zero = ⊥
IsWrongCase k c (suc place) = IsFirstOff (Contains (wanted_inputs k)) c.cases place

-- a cost is that of the selection
abbrev pub HasItsCost : Task → Cert → Claim → Type 0
HasItsCost k c (claim.Cost n) = IsOfCost k c.selection n
HasItsCost k c claim.Nothing = Unit {0}
HasItsCost k c (claim.Spent n) = Unit {0}

-- there is a case, the sessions are those of the claim, over all cases, and their logs refute; of a
-- spent budget nothing is shown
abbrev pub ShowsClaim : Cert → Claim → Type 0
ShowsClaim c (claim.Cost n) = AreRefuted c (least_queries c.selection n (length c.cases))
ShowsClaim c claim.Nothing = AreRefuted c (none_queries (length c.cases))
ShowsClaim c (claim.Spent n) = ⊥

-- the first three conditions
pub record IsInForm (k : Task) (c : Cert) : Type 0 where
  pub cases : AreInputs k c
  pub cost : HasItsCost k c c.claim
  pub shows : ShowsClaim c c.claim

-- the session at a place, counted from 1, decides: those before it pass
abbrev pub IsDecidedAt : Task → Cert → ℕ → (Session → Type 0) → Type 0
IsDecidedAt k c zero Fact = ⊥
IsDecidedAt k c (suc place) Fact =
    ((anew : ℕ) × Pass k c.cases (take place c.sessions) anew)
    × ((x : Session) × (slice_get c.sessions place ≡ Some x) × Fact x)

-- The verdicts exclude each other, and want of memory aside one of them stands. So each comes
-- exactly where it stands.
abbrev pub IsVerdict : Task → Cert → Verdict → Type 0
IsVerdict k c (verdict.Accepted cost program anew) =
    IsInForm k c × (c.claim ≡ claim.Cost cost) × Makes k c.selection (routines_of program)
    × IsAccepted k c anew
IsVerdict k c (verdict.AcceptedNone anew) =
    IsInForm k c × (c.claim ≡ claim.Nothing) × IsAccepted k c anew
IsVerdict k c (verdict.WrongCase case) = IsWrongCase k c case
IsVerdict k c verdict.WrongCost = AreInputs k c × (HasItsCost k c c.claim → ⊥)
IsVerdict k c verdict.WrongClaim =
    AreInputs k c × HasItsCost k c c.claim × (ShowsClaim c c.claim → ⊥)
IsVerdict k c (verdict.OtherFormula session clause built shown) =
    IsInForm k c
    × IsDecidedAt k c session (λ x. IsOther k c.cases x clause built shown)
IsVerdict k c (verdict.BadStep session step) =
    IsInForm k c × IsDecidedAt k c session (λ x. IsBad k c.cases x step)
IsVerdict k c verdict.NoMemory = Unit {0}

-- what is known of the task by a verdict, whatever wrote the certificate
abbrev pub IsKnownBy : Task → Cert → Verdict → Type 0
IsKnownBy k c (verdict.Accepted cost program anew) =
    HasWanted k
    × IsBestOf k (routines_of program) cost (edits (member_of c.selection) (tree_of k) 0)
IsKnownBy k c (verdict.AcceptedNone anew) = HasWanted k × NoneAgrees k
IsKnownBy k c (verdict.WrongCase case) = Unit {0}
IsKnownBy k c verdict.WrongCost = Unit {0}
IsKnownBy k c verdict.WrongClaim = Unit {0}
IsKnownBy k c (verdict.OtherFormula session clause built shown) = Unit {0}
IsKnownBy k c (verdict.BadStep session step) = Unit {0}
IsKnownBy k c verdict.NoMemory = Unit {0}
