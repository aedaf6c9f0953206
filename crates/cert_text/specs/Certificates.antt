-- The texts of certificates.
use Rattle.std.specs.Prelude.{◌≡◌, ℕ, suc, List, [], ◌∷◌, ◌++◌, length, ◌+◌, map, true}
use Rattle.std.specs.List.{AllZip, flat_map, list_all}
use Rattle.choice_tree.specs.declared.selection.Choice.{Choice}
use Rattle.step_lines.specs.LineForms.{step_line}
use Rattle.step_lines.specs.Lines.{HasLines, ended, lacks}
use Rattle.input_space.specs.declared.case.Case.{Case}
use Rattle.input_space.specs.declared.session.Session.{Session}
use Rattle.cert_text.specs.declared.cert.Cert.{Cert}
use Rattle.cert_text.specs.declared.cert.Claim.{Claim}
use Rattle.cert_text.specs.declared.cert.Claim.TheVariants as claim
use Rattle.cert_text.specs.Limits.{KeepsForm}
use Rattle.cert_text.specs.LineForms.{SpellsCaseLine, claim_line, clause_line, first_line}
use Rattle.cert_text.specs.LineForms.{last_line, query_line, selection_line, vars_line}

-- a certificate by its parts
abbrev pub cert_with : Claim → List Choice → List Case → List Session → Cert
cert_with claimed choices cases sessions = record {
  claim = claimed;
  selection = choices;
  cases = cases;
  sessions = sessions;
}

-- the line of the selection stands with a cost alone
abbrev pub selection_lines : Claim → List Choice → List (List ℕ)
selection_lines (claim.Cost n) choices = selection_line choices ∷ []
selection_lines claim.Nothing choices = []
selection_lines (claim.Spent n) choices = []

-- what comes before the cases
abbrev pub front_lines : Claim → List Choice → List (List ℕ)
front_lines claimed choices =
    first_line ∷ claim_line claimed ∷ selection_lines claimed choices

-- on which line the case at a place stands, both counted from 1
abbrev pub case_line : Cert → ℕ → ℕ
case_line c place = length (front_lines c.claim c.selection) + place

-- the question, the number of variables, the clauses of the formula and those of the log
abbrev pub session_lines : Session → List (List ℕ)
session_lines s =
    query_line s.query ∷ vars_line s.formula.vars
    ∷ (map clause_line s.formula.clauses ++ map step_line s.log.steps)

abbrev pub sessions_lines : List Session → List (List ℕ)
sessions_lines sessions = flat_map session_lines sessions

-- the lines spell a certificate
pub record SpellsCert (lines : List (List ℕ)) (c : Cert) : Type 0 where
  pub case_lines : List (List ℕ)
  pub cases : AllZip SpellsCaseLine case_lines c.cases
  pub written : lines ≡ front_lines c.claim c.selection
      ++ (case_lines ++ (sessions_lines c.sessions ++ last_line ∷ []))
  pub kept : KeepsForm c

-- what the lines of cases add to a text
pub record WritesCases (old new : List ℕ) (cases : List Case) : Type 0 where
  pub lines : List (List ℕ)
  pub spelled : AllZip SpellsCaseLine lines cases
  pub written : new ≡ old ++ ended lines

pub record WritesCase (old new : List ℕ) (c : Case) : Type 0 where
  pub line : List ℕ
  pub spelled : SpellsCaseLine line c
  pub written : new ≡ old ++ (line ++ 10 ∷ [])

-- the text is of the form of a certificate
pub record IsCertOf (text : List ℕ) (c : Cert) : Type 0 where
  pub lines : List (List ℕ)
  pub cut : HasLines text lines
  pub spelled : SpellsCert lines c

-- lines with which the text of some certificate begins
pub record CanGoOn (lines : List (List ℕ)) : Type 0 where
  pub more : List (List ℕ)
  pub cert : Cert
  pub spelled : SpellsCert (lines ++ more) cert

-- The least line at which the form can't go on: it can up to that line, and not behind it. Where
-- an end is missing, that is the line after the last that has its end.
pub record StopsAt (text : List ℕ) (number : ℕ) : Type 0 where
  pub front : List (List ℕ)
  pub apart : list_all (lacks 10) front ≡ true
  pub behind : List ℕ
  pub cut : text ≡ ended front ++ behind
  pub counted : number ≡ suc (length front)
  pub before : CanGoOn front
  pub here : (line rest : List ℕ) → behind ≡ line ++ (10 ∷ rest) → lacks 10 line ≡ true
      → CanGoOn (front ++ line ∷ []) → ⊥
