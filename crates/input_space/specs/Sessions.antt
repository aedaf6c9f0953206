-- What sessions tell, and which are a trail.
use Rattle.std.specs.Prelude.{◌≡◌, ◌≤◌, ◌<◌, ◌≢◌, ℕ, ◌-◌, ◌+◌, Bool, true, false, List, [], ◌∷◌}
use Rattle.std.specs.Prelude.{map, length, sum, All, slice_get, if◌then◌else◌, IsSomeAnd}
use Rattle.std.specs.Option.{option_map_or}
use Rattle.clause_base.specs.declared.lit.Lit.{Lit}
use Rattle.clause_base.specs.declared.log.Step.{Step}
use Rattle.clause_base.specs.Logs.{IsFresh, IsNarrow, LogFollows}
use Rattle.choice_tree.specs.declared.selection.Choice.{Choice}
use Rattle.cegis_loop.specs.Order.{End, Unfinished, IsWholeSearch}
use Rattle.cegis_loop.specs.Space.{Space}
use Rattle.cegis_loop.specs.State.{Question, First, Low, Fail, Told, Refuted, Open}
use Rattle.input_space.specs.declared.case.Case.{Case}
use Rattle.input_space.specs.declared.session.Query.{Query}
use Rattle.input_space.specs.declared.session.Query.TheVariants as query
use Rattle.input_space.specs.declared.session.Session.{Session}
use Rattle.input_space.specs.Statements.{Coding, States, bits_of}

-- a query as a question of a search
abbrev pub question_of : Query → Question (List Choice)
question_of query.First = First
question_of (query.Low most cases) = Low most cases
question_of (query.Fail s) = Fail s

abbrev pub is_empty : List Lit → Bool
is_empty [] = true
is_empty (l ∷ ls) = false

-- whether the last clause is empty
abbrev pub is_refuted : List Step → Bool
is_refuted steps =
    option_map_or (λ (x : Step). is_empty x.clause.lits) (slice_get steps (length steps - 1)) false

-- what a session tells of its question
abbrev pub told_of : Session → Told (List Choice)
told_of x =
    if is_refuted x.log.steps then Refuted (question_of x.query) else Open (question_of x.query)

-- how many of the kept cases a query is about
abbrev pub cases_of : Query → ℕ
cases_of query.First = 0
cases_of (query.Low most cases) = cases
cases_of (query.Fail s) = 0

-- The formula states the query and has at least one clause and at most 2147483647 variables; and
-- the log follows from it.
pub record IsBacked (s : Space (List Choice) Case) (d : Coding (List Choice) Case)
    (kept : List Case) (x : Session) : Type 0 where
  pub cases : cases_of x.query ≤ length kept
  pub states : States s d kept (question_of x.query) x.formula.vars x.formula.clauses
  pub some : 0 < length x.formula.clauses
  pub few : x.formula.vars ≤ 2147483647
  pub follows : LogFollows x.formula.vars x.formula.clauses x.log.steps

-- No clause of the log contains one of the formula or an earlier one, or has a variable that isn't
-- the query's own, or 1.
pub record IsHonest (d : Coding (List Choice) Case) (x : Session) : Type 0 where
  pub fresh : IsFresh x.formula.clauses x.log.steps
  pub narrow : IsNarrow (bits_of d (question_of x.query) + 1) x.log.steps

-- no clause of the log is empty
abbrev pub NoneEmpty : List Step → Type 0
NoneEmpty steps = All (λ x. x.clause.lits ≢ []) steps

-- the sessions of a whole search that kept these cases; in one that is left unfinished the log of
-- the last has no empty clause
pub record IsTrail (s : Space (List Choice) Case) (kept : List Case) (xs : List Session)
    (end : End (List Choice)) : Type 0 where
  pub search : IsWholeSearch s kept (map told_of xs) end
  pub left : end ≡ Unfinished
      → IsSomeAnd (slice_get xs (length xs - 1)) (λ x. NoneEmpty x.log.steps)

-- how many clauses were logged
abbrev pub logged : List Session → ℕ
logged xs = sum (map (λ x. length x.log.steps) xs)
