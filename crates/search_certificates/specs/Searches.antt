-- What a search about a task leaves.
use Rattle.std.specs.Prelude.{◌≤◌, ℕ, ◌+◌, List, All, length, map, Some}
use Rattle.choice_tree.specs.declared.selection.Choice.{Choice}
use Rattle.cegis_loop.specs.declared.outcome.Least.{Least}
use Rattle.cegis_loop.specs.declared.outcome.Least.TheVariants.{Found, Nothing, NoCase, Spent}
use Rattle.cegis_loop.specs.declared.outcome.Least.TheVariants.{NoMemory}
use Rattle.cegis_loop.specs.Order.{NoChoice, NoInput, Settled, Unfinished, IsAtLeast}
use Rattle.cegis_loop.specs.Space.{Space}
use Rattle.cegis_loop.specs.State.{State}
use Rattle.cegis_loop.specs.WholeAnswers.{IsWholeAnswer}
use Rattle.input_space.specs.declared.case.Case.{Case}
use Rattle.input_space.specs.declared.session.Session.{Session}
use Rattle.input_space.specs.Sessions.{IsBacked, IsHonest, IsTrail, logged, told_of}
use Rattle.input_space.specs.TaskCoding.{coding}
use Rattle.input_space.specs.Tasks.{Task}
use Rattle.input_space.specs.TaskSpace.{space}
use Rattle.search_certificates.specs.declared.outcome.Search.{Search}

-- the kept cases, the questions that the sessions tell, and how many clauses they logged
abbrev pub seen_of : Search → State (List Choice) Case
seen_of r = record {
  kept = r.kept;
  told = Some (map told_of r.sessions);
  logged = logged r.sessions;
}

-- The sessions and the kept cases are a trail that ends by what was found. The cost that is called
-- the least possible is the least number such that no question with a bound of it or more was
-- refuted.
abbrev pub IsTrailOf : Space (List Choice) Case → List Case → List Session → Least (List Choice)
    → Type 0
IsTrailOf s kept xs (Found c cost) = (cases : ℕ) × IsTrail s kept xs (Settled c cases)
IsTrailOf s kept xs Nothing = IsTrail s kept xs NoChoice
IsTrailOf s kept xs NoCase = IsTrail s kept xs NoInput
IsTrailOf s kept xs (Spent at_least) =
    IsTrail s kept xs Unfinished × IsAtLeast (map told_of xs) at_least
IsTrailOf s kept xs NoMemory = ⊥

-- What a search about a task leaves that may log so many clauses: what it found is right, by all
-- inputs and by the kept ones; its sessions are a trail; each formula states its question, and each
-- log follows and is honest; the numbers of a session's clauses keep their limit.
pub record IsSearchOf (k : Task) (budget : ℕ) (r : Search) : Type 0 where
  pub answer : IsWholeAnswer (space k budget) (seen_of r) r.found
  pub trail : IsTrailOf (space k budget) r.kept r.sessions r.found
  pub backed : All (IsBacked (space k budget) (coding k) r.kept) r.sessions
  pub honest : All (IsHonest (coding k)) r.sessions
  pub numbered :
      All (λ x. length x.formula.clauses + length x.log.steps ≤ 2147483647) r.sessions
