-- When the answer of a search is right.
use Rattle.std.specs.Prelude.{◌≡◌, ◌≢◌, ℕ, ◌<◌, ◌≤◌, List, [], map, Option, Some, None}
use Rattle.std.specs.Prelude.{slice_get, true, All, IsSomeAnd}
use Rattle.mpy_tree.specs.Outcomes.{is_done}
use Rattle.mpy_tree.specs.Syntax.{Routine}
use Rattle.choice_tree.specs.declared.selection.Choice.{Choice}
use Rattle.choice_tree.specs.Selections.{Fits}
use Rattle.input_space.specs.declared.case.Case.{Case}
use Rattle.input_space.specs.Agreement.{Failure, ends_on}
use Rattle.input_space.specs.Tasks.{HasWanted, IsBestOf, IsFailureOf, NoneAgrees, Task, tree_of}
use Rattle.input_space.specs.TaskSpace.{Meets, space, wanted_inputs}
use Rattle.input_space.specs.declared.session.Session.{Session}
use Rattle.cegis_loop.specs.declared.outcome.Least.{Least}
use Rattle.cegis_loop.specs.declared.outcome.Least.TheVariants.{Found, Nothing, NoCase, Spent}
use Rattle.cegis_loop.specs.Answers.{IsKept, Means}
use Rattle.cert_text.specs.declared.cert.Cert.{Cert}
use Rattle.cert_text.specs.declared.cert.Claim.{Claim}
use Rattle.cert_text.specs.declared.cert.Claim.TheVariants as claim
use Rattle.cert_text.specs.Certificates.{IsCertOf}
use Rattle.certificate_laws.specs.Right as certificates
use Rattle.search_certificates.specs.Certified.{search_with}
use Rattle.search_certificates.specs.Searches.{IsSearchOf}
use Rattle.cegis_loop.specs.Answers as loop
use Rattle.feedback_text.specs.declared.answer.Answer as code
use Rattle.feedback_text.specs.declared.answer.Failure as code_failure
use Rattle.feedback_text.specs.Answers.{Edit, NoneBelow, edit_tree}
use Rattle.feedback_text.specs.AnswerViews.{Makes, failure_of}

-- the selection makes a rewriting that agrees, of the least cost of those that do
pub record IsBestSelection (k : Task) (s : List Choice) (cost : ℕ) : Type 0 where
  pub fits : Fits (tree_of k) s
  pub best : (p : List Routine) (es : List Edit) → Makes (tree_of k) s p es
      → IsBestOf k p cost (map edit_tree es)

-- the first of the kept cases on which the submission doesn't give the value of the reference
pub record IsFirstFailure (k : Task) (kept : List Case) (f : Failure) : Type 0 where
  pub place : ℕ
  pub at : slice_get kept place ≡ Some (record { values = f.input })
  pub fails : IsFailureOf k f
  pub first : (i : ℕ) (x : Case) → i < place → slice_get kept i ≡ Some x → Meets k k.submission x

-- the answer is right, where these cases were kept
abbrev pub IsRight : Task → List Case → code.Answer → Type 0
IsRight k kept code.TheVariants.Correct = HasWanted k × IsBestOf k k.submission 0 []
IsRight k kept (code.TheVariants.Corrected s cost fails) =
    IsBestSelection k s cost × (0 < cost) × IsFirstFailure k kept (failure_of fails)
IsRight k kept (code.TheVariants.NoCorrection fails) =
    NoneAgrees k × IsFirstFailure k kept (failure_of fails)
IsRight k kept code.TheVariants.EmptyReference = HasWanted k → ⊥
IsRight k kept (code.TheVariants.Spent at_least budget) = NoneBelow k at_least
IsRight k kept code.TheVariants.NoMemory = Unit {0}

-- what the kept cases rule out by themselves: each selection that is cheaper, or each one
abbrev pub RulesOut : Task → List Case → code.Answer → Type 0
RulesOut k kept code.TheVariants.Correct = Unit {0}
RulesOut k kept (code.TheVariants.Corrected s cost fails) = loop.NoneBelow (space k 1) kept cost
RulesOut k kept (code.TheVariants.NoCorrection fails) = loop.NoneAgrees (space k 1) kept
RulesOut k kept code.TheVariants.EmptyReference = kept ≡ []
RulesOut k kept (code.TheVariants.Spent at_least budget) = loop.NoneBelow (space k 1) kept at_least
RulesOut k kept code.TheVariants.NoMemory = Unit {0}

-- The kept cases are inputs on which the reference ends, each of them new, and each but the first
-- refutes a selection that agrees on those before it.
pub record KeepsCases (k : Task) (kept : List Case) (a : code.Answer) : Type 0 where
  pub inputs : IsKept (space k 1) kept
  pub ruled_out : RulesOut k kept a

-- the answer is told of what was found under the budget
abbrev pub StandsForFound : ℕ → code.Answer → Least (List Choice) → Type 0
StandsForFound b code.TheVariants.Correct found = (s : List Choice) × (found ≡ Found s 0)
StandsForFound b (code.TheVariants.Corrected s cost fails) found = found ≡ Found s cost
StandsForFound b (code.TheVariants.NoCorrection fails) found = found ≡ Nothing
StandsForFound b code.TheVariants.EmptyReference found = found ≡ NoCase
StandsForFound b (code.TheVariants.Spent at_least budget) found =
    (found ≡ Spent at_least) × (budget ≡ b)
StandsForFound b code.TheVariants.NoMemory found = ⊥

-- This was found about the task under the budget, where these cases were kept.
pub record IsFoundBy (k : Task) (budget : ℕ) (kept : List Case) (found : Least (List Choice))
    : Type 0 where
  pub means : Means (space k budget) (wanted_inputs k) found
  pub means_on_kept : Means (space k budget) kept found
  pub inputs : IsKept (space k budget) kept

-- The answer is told of what a search found under the budget, which kept these cases and asked in
-- these sessions.
pub record IsRunOf (k : Task) (budget : ℕ) (a : code.Answer) (kept : List Case)
    (xs : List Session) : Type 0 where
  pub found : Least (List Choice)
  pub search : IsSearchOf k budget (search_with found kept xs)
  pub stands : StandsForFound budget a found

-- The same, where memory was there.
abbrev pub IsRun : Task → ℕ → code.Answer → List Case → List Session → Type 0
IsRun k budget a kept xs =
    (a ≡ code.TheVariants.NoMemory → ⊥) → IsRunOf k budget a kept xs

-- an answer that is certified
abbrev pub MayBeCertified : code.Answer → Type 0
MayBeCertified code.TheVariants.Correct = Unit {0}
MayBeCertified (code.TheVariants.Corrected s cost fails) = Unit {0}
MayBeCertified (code.TheVariants.NoCorrection fails) = Unit {0}
MayBeCertified code.TheVariants.EmptyReference = ⊥
MayBeCertified (code.TheVariants.Spent at_least budget) = Unit {0}
MayBeCertified code.TheVariants.NoMemory = ⊥

-- what is claimed of it
abbrev pub IsClaimOf : code.Answer → Claim → Type 0
IsClaimOf code.TheVariants.Correct c = c ≡ claim.Cost 0
IsClaimOf (code.TheVariants.Corrected s cost fails) c = c ≡ claim.Cost cost
IsClaimOf (code.TheVariants.NoCorrection fails) c = c ≡ claim.Nothing
IsClaimOf code.TheVariants.EmptyReference c = ⊥
IsClaimOf (code.TheVariants.Spent at_least budget) c = c ≡ claim.Spent budget
IsClaimOf code.TheVariants.NoMemory c = ⊥

-- A run that can be certified: no more clauses were logged than a certificate can say, and at least
-- one, where a budget is spent.
pub record HasRun (k : Task) (a : code.Answer) (kept : List Case) (xs : List Session) : Type 0 where
  pub budget : ℕ
  pub run : IsRunOf k budget a kept xs
  pub few : budget ≤ 200000
  pub some : 1 ≤ budget

-- the selection of the certificate is that of the answer
abbrev pub HasSelection : code.Answer → List Choice → Type 0
HasSelection code.TheVariants.Correct t = Unit {0}
HasSelection (code.TheVariants.Corrected s cost fails) t = t ≡ s
HasSelection (code.TheVariants.NoCorrection fails) t = t ≡ []
HasSelection code.TheVariants.EmptyReference t = ⊥
HasSelection (code.TheVariants.Spent at_least budget) t = t ≡ []
HasSelection code.TheVariants.NoMemory t = ⊥

-- The text is that of a certificate that is right for the task, whose claim, selection and cases
-- are those of the run; of a spent budget it has all sessions.
pub record Certifies (k : Task) (a : code.Answer) (kept : List Case) (xs : List Session)
    (text : List ℕ) : Type 0 where
  pub cert : Cert
  pub spelled : IsCertOf text cert
  pub claim_is : IsClaimOf a cert.claim
  pub selection_is : HasSelection a cert.selection
  pub cases_are : cert.cases ≡ kept
  pub right : (budget : ℕ) → IsRunOf k budget a kept xs → certificates.IsRight k budget cert
  pub whole : (n : ℕ) → cert.claim ≡ claim.Spent n → cert.sessions ≡ xs

-- the text that is kept of an answer certifies it; of one that isn't certified there is none
abbrev pub IsKeptFor : Task → code.Answer → List Case → List Session → Option (List ℕ) → Type 0
IsKeptFor k code.TheVariants.Correct kept xs o =
    IsSomeAnd o (Certifies k code.TheVariants.Correct kept xs)
IsKeptFor k (code.TheVariants.Corrected s cost fails) kept xs o =
    IsSomeAnd o (Certifies k (code.TheVariants.Corrected s cost fails) kept xs)
IsKeptFor k (code.TheVariants.NoCorrection fails) kept xs o =
    IsSomeAnd o (Certifies k (code.TheVariants.NoCorrection fails) kept xs)
IsKeptFor k code.TheVariants.EmptyReference kept xs o = o ≡ None
IsKeptFor k (code.TheVariants.Spent at_least budget) kept xs o =
    IsSomeAnd o (Certifies k (code.TheVariants.Spent at_least budget) kept xs)
IsKeptFor k code.TheVariants.NoMemory kept xs o = o ≡ None

-- how the submission fails on a case
pub record FailsSo (k : Task) (x : Case) (f : code_failure.Failure) : Type 0 where
  pub case_is : f.case ≡ x
  pub wants : ends_on k.bounds k.reference x.values ≡ f.wanted
  pub done : is_done f.wanted ≡ true
  pub gives_is : ends_on k.bounds k.submission x.values ≡ f.gives
  pub differ : f.gives ≢ f.wanted

-- the submission doesn't end as the reference does on all of the cases
abbrev pub SomeFails : Task → List Case → Type 0
SomeFails k xs = All (Meets k k.submission) xs → ⊥
