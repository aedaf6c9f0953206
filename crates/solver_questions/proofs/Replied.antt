-- What a solver's answers say of a question.
use Rattle.std.proofs.Common.{◌≡◌, ◌≤◌, ◌<◌, ℕ, ◌+◌, ◌-◌, Bool, false, List, length, take, drop}
use Rattle.std.proofs.Common.{refl, ap, arith}
use Rattle.std.proofs.lemmas.List.{length-drop, length-take-le}
use Rattle.clause_base.specs.declared.formula.Formula.{Formula}
use Rattle.clause_base.specs.declared.log.Log.{Log}
use Rattle.clause_base.specs.Logs.{IsFresh, IsNarrow, LogFollows, Refutes}
use Rattle.clause_base.specs.Solving.{IsModel}
use Rattle.derivation_check.specs.Soundness.{RefutedHasNoValues}
use Rattle.input_space.specs.declared.case.Case.{Case}
use Rattle.input_space.specs.declared.session.Query.{Query}
use Rattle.input_space.specs.declared.session.Session.{Session}
use Rattle.input_space.specs.Sessions.{NoneEmpty, cases_of, is_refuted}
use Rattle.input_space.specs.TaskCoding.{StatesQuery}
use Rattle.input_space.specs.Tasks.{Task}
use Rattle.query_build.specs.Asking.{own_bits}
use Rattle.solver_questions.specs.Replies.{AreFound, IsSessionOf, NoneAnswers, own_of}

-- what is known of the formula of a question
pub record IsStated (k : Task) (kept : List Case) (query : Query) (f : Formula) : Type 0 where
  pub cases : cases_of query ≤ length kept
  pub states : StatesQuery k kept query f.vars f.clauses
  pub own : own_of k query + 1 ≤ f.vars
  pub some : 0 < length f.clauses
  pub few : f.vars ≤ 2147483647

abbrev pub session_of : Query → Formula → Log → Session
session_of query f log = record { query = query; formula = f; log = log }

pub is_session : (k : Task) (kept : List Case) (query : Query) (budget : ℕ) (f : Formula) (log : Log)
    → IsStated k kept query f
    → LogFollows f.vars f.clauses log.steps → IsFresh f.clauses log.steps
    → IsNarrow (own_of k query + 1) log.steps
    → (is_refuted log.steps ≡ false → NoneEmpty log.steps)
    → length f.clauses + length log.steps ≤ 2147483647
    → length log.steps ≤ budget
    → IsSessionOf k kept query budget (session_of query f log)
is_session k kept query budget f log stated follows fresh narrow alone numbered within = record {
  asks = refl;
  backed = λ n. record {
    cases = stated.cases;
    states = stated.states n;
    some = stated.some;
    few = stated.few;
    follows = follows;
  };
  honest = record { fresh = fresh; narrow = narrow };
  unrefuted = alone;
  numbered = numbered;
  few = within;
}

many_own : (n : ℕ) (values : List Bool) → n + 1 ≤ length values → length (own_bits n values) ≡ n
many_own n values h =
    let rest : length (drop 1 values) ≡ length values - 1 = length-drop 1 values in
    length-take-le n (drop 1 values) (omega arith)

-- a model begins with truth values of what is asked for
pub found_by : (k : Task) (kept : List Case) (query : Query) (f : Formula) (values : List Bool)
    → IsStated k kept query f → IsModel f values → AreFound k kept query values
found_by k kept query f values stated model =
    let n = own_of k query in
    let many : length values ≡ f.vars = model.many in
    let wide : n + 1 ≤ f.vars = stated.own in
    let small : f.vars ≤ 2147483647 = stated.few in
    let enough : n + 1 ≤ length values = omega arith in
    let own : length (own_bits n values) ≡ n = many_own n values enough in
    record {
      many = enough;
      few = omega arith;
      answers = λ budget. (stated.states budget (own_bits n values) own).0 (record {
        values = values;
        many = many;
        begins = ap (λ i. take i (drop 1 values)) own;
        satisfied = model.satisfied;
      });
    }

-- where a log refutes the formula, nothing that is asked for has truth values
pub nothing_by : RefutedHasNoValues → (k : Task) (kept : List Case) (query : Query) (f : Formula)
    (log : Log) → IsStated k kept query f → LogFollows f.vars f.clauses log.steps
    → Refutes log.steps → NoneAnswers k kept query
nothing_by law k kept query f log stated follows refutes bits budget many answered =
    let model = (stated.states budget bits many).1 answered in
    law f.vars f.clauses log.steps model.values follows refutes model.satisfied
