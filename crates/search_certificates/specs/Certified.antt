-- What is claimed of a search, and its certificate.
use Rattle.std.specs.Prelude.{◌≡◌, ◌≤◌, ℕ, List, Option, Some, None, IfSome, []}
use Rattle.choice_tree.specs.declared.selection.Choice.{Choice}
use Rattle.cegis_loop.specs.declared.outcome.Least.{Least}
use Rattle.cegis_loop.specs.declared.outcome.Least.TheVariants.{Found, Nothing, NoCase, Spent}
use Rattle.cegis_loop.specs.declared.outcome.Least.TheVariants.{NoMemory}
use Rattle.input_space.specs.declared.case.Case.{Case}
use Rattle.input_space.specs.declared.session.Query.{Query}
use Rattle.input_space.specs.declared.session.Query.TheVariants as query
use Rattle.input_space.specs.declared.session.Session.{Session}
use Rattle.input_space.specs.Sessions.{logged}
use Rattle.input_space.specs.Tasks.{Task}
use Rattle.cert_text.specs.declared.cert.Cert.{Cert}
use Rattle.cert_text.specs.declared.cert.Claim.{Claim}
use Rattle.cert_text.specs.declared.cert.Claim.TheVariants as claim
use Rattle.cert_text.specs.Certificates.{IsCertOf}
use Rattle.cert_text.specs.Limits.{KeepsChoices, greatest_budget, greatest_cost}
use Rattle.certificate_laws.specs.Right.{IsRight}
use Rattle.search_certificates.specs.declared.outcome.Search.{Search}
use Rattle.search_certificates.specs.Searches.{IsSearchOf}

-- what is claimed of what was found, where so many clauses were logged
abbrev pub claim_of : Least (List Choice) → ℕ → Option Claim
claim_of (Found s cost) n = Some (claim.Cost cost)
claim_of Nothing n = Some claim.Nothing
claim_of NoCase n = None
claim_of (Spent at_least) n = Some (claim.Spent n)
claim_of NoMemory n = None

abbrev pub search_with : Least (List Choice) → List Case → List Session → Search
search_with found kept xs = record { found = found; kept = kept; sessions = xs }

-- this was found by a search about the task with these cases and sessions, and it is claimed
pub record Claims (k : Task) (c : Claim) (kept : List Case) (xs : List Session) (budget : ℕ)
    (found : Least (List Choice)) : Type 0 where
  pub search : IsSearchOf k budget (search_with found kept xs)
  pub claimed : claim_of found (logged xs) ≡ Some c

-- The claim is of what some search found, and no more clauses were logged than a certificate can
-- say; at least one, where the budget is spent.
pub record IsClaimed (k : Task) (c : Claim) (kept : List Case) (xs : List Session) : Type 0 where
  pub found : Least (List Choice)
  pub budget : ℕ
  pub claims : Claims k c kept xs budget found
  pub few : logged xs ≤ greatest_budget
  pub some : (n : ℕ) → c ≡ claim.Spent n → 1 ≤ n

-- the selection that was found, or none
abbrev pub IsChosen : Least (List Choice) → List Choice → Type 0
IsChosen (Found s cost) t = t ≡ s
IsChosen Nothing t = t ≡ []
IsChosen NoCase t = ⊥
IsChosen (Spent at_least) t = t ≡ []
IsChosen NoMemory t = ⊥

-- the certificate is right, and has the selection that was found
pub record IsCertificateOf (k : Task) (budget : ℕ) (found : Least (List Choice)) (cert : Cert)
    : Type 0 where
  pub right : IsRight k budget cert
  pub chosen : IsChosen found cert.selection

-- The text is that of a certificate with this claim and these cases, which is right whatever search
-- found what is claimed; of a spent budget it has all sessions.
pub record IsCertified (k : Task) (c : Claim) (kept : List Case) (xs : List Session)
    (text : List ℕ) : Type 0 where
  pub cert : Cert
  pub spelled : IsCertOf text cert
  pub claim_is : cert.claim ≡ c
  pub cases_are : cert.cases ≡ kept
  pub whole : (n : ℕ) → c ≡ claim.Spent n → cert.sessions ≡ xs
  pub certifies : (budget : ℕ) (found : Least (List Choice)) → Claims k c kept xs budget found
      → IsCertificateOf k budget found cert

-- what a question names can be written
abbrev pub KeepsAsked : Query → Type 0
KeepsAsked query.First = Unit {0}
KeepsAsked (query.Low most cases) = IfSome most (λ n. n ≤ greatest_cost)
KeepsAsked (query.Fail s) = KeepsChoices s
