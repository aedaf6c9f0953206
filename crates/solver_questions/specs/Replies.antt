-- What a solver says of a question.
use Rattle.std.specs.Prelude.{◌≡◌, ◌≤◌, ℕ, ◌+◌, Bool, true, false, List, length}
use Rattle.std.specs.declared.result.Result.{Result}
use Rattle.std.specs.declared.result.Result.TheVariants.{Ok, Err}
use Rattle.cegis_loop.specs.declared.asked.Asked.{Asked}
use Rattle.cegis_loop.specs.declared.asked.Asked.TheVariants as asked
use Rattle.cegis_loop.specs.Space.{Space, IsFail, IsInput}
use Rattle.choice_tree.specs.declared.selection.Choice.{Choice}
use Rattle.clause_base.specs.declared.log.Step.{Step}
use Rattle.input_space.specs.declared.case.Case.{Case}
use Rattle.input_space.specs.declared.session.Query.{Query}
use Rattle.input_space.specs.declared.session.Query.TheVariants as query
use Rattle.input_space.specs.declared.session.Session.{Session}
use Rattle.input_space.specs.Sessions.{IsBacked, IsHonest, is_refuted, question_of}
use Rattle.input_space.specs.Statements.{IsAnswered, bits_of}
use Rattle.input_space.specs.TaskCoding.{coding}
use Rattle.input_space.specs.Tasks.{Task}
use Rattle.input_space.specs.TaskSpace.{space}
use Rattle.query_build.specs.Asking.{own_bits}
use Rattle.solver_questions.specs.declared.reply.Finding.{Finding}
use Rattle.solver_questions.specs.declared.reply.Finding.TheVariants as finding
use Rattle.solver_questions.specs.Asking.{HasNoEmptyStep, IsNumbered}

-- how many truth values a question about a task has
abbrev pub own_of : Task → Query → ℕ
own_of k query = bits_of (coding k) (question_of query)

-- truth values stand for something that is asked for, whatever the budget is
abbrev pub Answers : Task → List Case → Query → List Bool → Type 0
Answers k kept query bits =
    (budget : ℕ) → IsAnswered (space k budget) (coding k) kept (question_of query) bits

-- the values of a formula's variables begin with such truth values
pub record AreFound (k : Task) (kept : List Case) (query : Query) (values : List Bool)
    : Type 0 where
  pub many : own_of k query + 1 ≤ length values
  pub few : length values ≤ 2147483647
  pub answers : Answers k kept query (own_bits (own_of k query) values)

-- no truth values do
abbrev pub NoneAnswers : Task → List Case → Query → Type 0
NoneAnswers k kept query =
    (bits : List Bool) (budget : ℕ) → length bits ≡ own_of k query
    → IsAnswered (space k budget) (coding k) kept (question_of query) bits → ⊥

-- what was found, where so many clauses might be logged
abbrev pub Shows : Task → List Case → Query → ℕ → List Step → Finding → Type 0
Shows k kept query budget steps (finding.Values values) =
    (is_refuted steps ≡ false) × AreFound k kept query values
Shows k kept query budget steps finding.Nothing =
    (is_refuted steps ≡ true) × NoneAnswers k kept query
Shows k kept query budget steps finding.Spent =
    (is_refuted steps ≡ false) × (length steps ≡ budget)

-- the session of a question: its formula states it, and its log follows, is honest and has at most
-- so many clauses
pub record IsSessionOf (k : Task) (kept : List Case) (query : Query) (budget : ℕ) (x : Session)
    : Type 0 where
  pub asks : x.query ≡ query
  pub backed : (n : ℕ) → IsBacked (space k n) (coding k) kept x
  pub honest : IsHonest (coding k) x
  pub unrefuted : HasNoEmptyStep x
  pub numbered : IsNumbered x
  pub few : length x.log.steps ≤ budget

-- what is looked for: an input, or a selection
abbrev pub IsInputFor : Space (List Choice) Case → Query → Case → Type 0
IsInputFor s query.First x = IsInput s x
IsInputFor s (query.Fail c) x = IsFail s c x
IsInputFor s (query.Low most cases) x = ⊥

-- a question that looks for an input
abbrev pub AsksForInput : Query → Type 0
AsksForInput query.First = Unit {0}
AsksForInput (query.Fail c) = Unit {0}
AsksForInput (query.Low most cases) = ⊥

-- what a call answers: an error is want of memory
abbrev pub asked_of : {T E : Type 0} → Result (Asked T) E → Asked T
asked_of (Ok a) = a
asked_of (Err e) = asked.NoMemory
