-- The limits and the order that a certificate keeps.
use Rattle.std.specs.Prelude.{◌≡◌, ◌≢◌, ℕ, suc, ◌≤◌, Bool, true, ◌&&◌, nat_lt, List}
use Rattle.std.specs.Prelude.{[], ◌∷◌, length, IfSome}
use Rattle.std.specs.List.{list_all}
use Rattle.choice_tree.specs.Choices.{Rises}
use Rattle.choice_tree.specs.declared.selection.Choice.{Choice}
use Rattle.step_lines.specs.Limits.{KeepsSteps, greatest_number, is_number}
use Rattle.input_space.specs.declared.session.Query.{Query}
use Rattle.input_space.specs.declared.session.Query.TheVariants as query
use Rattle.input_space.specs.declared.session.Session.{Session}
use Rattle.cert_text.specs.declared.cert.Cert.{Cert}
use Rattle.cert_text.specs.declared.cert.Claim.{Claim}
use Rattle.cert_text.specs.declared.cert.Claim.TheVariants as claim

abbrev pub greatest_cost : ℕ
greatest_cost = 4096

abbrev pub greatest_budget : ℕ
greatest_budget = 200000

-- a member other than the base, counted from 1
abbrev pub is_choice : Choice → Bool
is_choice c = is_number c.pick && (nat_lt 0 c.member && is_number c.member)

-- rising picks
pub record KeepsChoices (choices : List Choice) : Type 0 where
  pub rising : Rises 0 choices
  pub each : list_all is_choice choices ≡ true

-- a claim and its selection, which stands with a cost alone
abbrev pub KeepsClaim : Claim → List Choice → Type 0
KeepsClaim (claim.Cost n) choices = (n ≤ greatest_cost) × KeepsChoices choices
KeepsClaim claim.Nothing choices = choices ≡ []
KeepsClaim (claim.Spent n) choices = (1 ≤ n) × (n ≤ greatest_budget) × (choices ≡ [])

-- a question, where there are so many cases
abbrev pub KeepsQuery : ℕ → Query → Type 0
KeepsQuery count query.First = Unit {0}
KeepsQuery count (query.Low most cases) =
    IfSome most (λ k. k ≤ greatest_cost) × (cases ≤ count) × (cases ≤ greatest_number)
KeepsQuery count (query.Fail choices) = KeepsChoices choices

-- that no clause has a variable twice and that each variable of the formula is one of `vars`, the
-- types say
pub record KeepsSession (count : ℕ) (s : Session) : Type 0 where
  pub asked : KeepsQuery count s.query
  pub number : s.formula.vars ≤ greatest_number
  pub some : s.formula.clauses ≢ []
  pub steps : KeepsSteps s.formula.vars (suc (length s.formula.clauses)) s.log.steps

abbrev pub KeepsSessions : ℕ → List Session → Type 0
KeepsSessions count [] = Unit {0}
KeepsSessions count (s ∷ sessions) = KeepsSession count s × KeepsSessions count sessions

pub record KeepsForm (c : Cert) : Type 0 where
  pub claimed : KeepsClaim c.claim c.selection
  pub sessions : KeepsSessions (length c.cases) c.sessions
