-- When a certificate is right for a task.
use Rattle.std.specs.Prelude.{◌≡◌, ◌≢◌, ℕ, zero, suc, List, [], ◌∷◌, All, Some, None, length, map}
use Rattle.std.specs.List.{Contains}
use Rattle.choice_tree.specs.declared.selection.Choice.{Choice}
use Rattle.choice_tree.specs.Choices.{member_of}
use Rattle.choice_tree.specs.Selections.{Fits, cost}
use Rattle.clause_base.specs.Logs.{Refutes}
use Rattle.cegis_loop.specs.Order.{Unfinished}
use Rattle.input_space.specs.declared.session.Query.{Query}
use Rattle.input_space.specs.declared.session.Query.TheVariants as query
use Rattle.input_space.specs.Sessions.{IsBacked, IsHonest, IsTrail, logged}
use Rattle.input_space.specs.TaskCoding.{coding}
use Rattle.input_space.specs.Tasks.{Task, tree_of}
use Rattle.input_space.specs.TaskSpace.{space, wanted_inputs}
use Rattle.cert_text.specs.declared.cert.Cert.{Cert}
use Rattle.cert_text.specs.declared.cert.Claim.{Claim}
use Rattle.cert_text.specs.declared.cert.Claim.TheVariants as claim

-- the selection fits the task's tree and costs n
pub record IsOfCost (k : Task) (s : List Choice) (n : ℕ) : Type 0 where
  pub fits : Fits (tree_of k) s
  pub cost_is : cost (member_of s) (tree_of k) ≡ n

-- what is to be refuted where a selection is of least cost: that it fails on an input, and, if it
-- costs something, that one of smaller cost agrees on all cases
abbrev pub least_queries : List Choice → ℕ → ℕ → List Query
least_queries s zero cases = query.Fail s ∷ []
least_queries s (suc less) cases = query.Fail s ∷ query.Low (Some less) cases ∷ []

-- and where none agrees: that one of any cost agrees on all cases
abbrev pub none_queries : ℕ → List Query
none_queries cases = query.Low None cases ∷ []

-- There is a case; the sessions are those of the queries, in order; and each log refutes.
pub record AreRefuted (c : Cert) (queries : List Query) : Type 0 where
  pub some : c.cases ≢ []
  pub asked : map (λ x. x.query) c.sessions ≡ queries
  pub refuted : All (λ x. Refutes x.log.steps) c.sessions

-- The sessions are those of a search under the budget that was left unfinished, and n clauses were
-- logged.
pub record IsLeft (k : Task) (budget : ℕ) (c : Cert) (n : ℕ) : Type 0 where
  pub trail : IsTrail (space k budget) c.cases c.sessions Unfinished
  pub logged_is : logged c.sessions ≡ n

-- what each claim asks for
abbrev pub IsShown : Task → ℕ → Cert → Claim → Type 0
IsShown k budget c (claim.Cost n) =
    IsOfCost k c.selection n × AreRefuted c (least_queries c.selection n (length c.cases))
IsShown k budget c claim.Nothing = AreRefuted c (none_queries (length c.cases))
IsShown k budget c (claim.Spent n) = IsLeft k budget c n

-- Each case is an input on which the reference gives a value; each formula states the query of its
-- session, and each log follows from its formula; and the claim has what it asks for. The budget
-- is no matter.
pub record IsRight (k : Task) (budget : ℕ) (c : Cert) : Type 0 where
  pub cases : All (Contains (wanted_inputs k)) c.cases
  pub backed : All (IsBacked (space k budget) (coding k) c.cases) c.sessions
  pub shown : IsShown k budget c c.claim

-- A right certificate that a budget is spent, on new clauses over the queries' own variables.
pub record IsHonestlySpent (k : Task) (budget : ℕ) (c : Cert) : Type 0 where
  pub claim_is : c.claim ≡ claim.Spent budget
  pub right : IsRight k budget c
  pub honest : All (IsHonest (coding k)) c.sessions
