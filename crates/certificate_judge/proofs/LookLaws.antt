-- What a look at a session gives, by its formula and the one that is built.
use Rattle.std.proofs.Common.{◌≡◌, ◌≢◌, ℕ, ◌<◌, ◌≤◌, ◌+◌, List, [], length, refl, sym, subst, Result, Ok, Err, IfOk}
use Rattle.std.specs.Prelude.{All}
use Rattle.clause_base.specs.declared.clause.Clause.{Clause}
use Rattle.clause_base.specs.declared.formula.Formula.{Formula}
use Rattle.clause_base.specs.declared.log.Log.{Log}
use Rattle.clause_base.specs.Formulas.{IsLedBy}
use Rattle.clause_base.specs.Logs.{LogFollows}
use Rattle.input_space.specs.declared.case.Case.{Case}
use Rattle.input_space.specs.declared.session.Query.{Query}
use Rattle.input_space.specs.declared.session.Session.{Session}
use Rattle.input_space.specs.Sessions.{IsBacked, cases_of, question_of}
use Rattle.input_space.specs.Statements.{bits_of}
use Rattle.input_space.specs.TaskCoding.{StatesQuery, coding}
use Rattle.input_space.specs.Tasks.{Task}
use Rattle.input_space.specs.TaskSpace.{space}
use Rattle.certificate_judge.specs.declared.look.Look.{Look}
use Rattle.certificate_judge.specs.declared.look.Look.TheVariants as look
use Rattle.certificate_judge.specs.declared.verdict.Shown.{Shown}
use Rattle.certificate_judge.specs.declared.verdict.Shown.TheVariants as shown
use Rattle.certificate_judge.specs.Looks.{IsAsked, IsBad, IsBuilt, IsLeft, IsLook, IsOther, IsShown, session_with}
use Rattle.log_check.specs.BadSteps.{IsBadPlace}
use Rattle.certificate_judge.specs.Places.{DifferAt}
use Rattle.certificate_judge.proofs.DifferenceLaws.{differ_not_same}

pub if_ok : {E : Type 0} {P Q : Look → Type 0} (r : Result Look E) → ((l : Look) → P l → Q l) → IfOk r P → IfOk r Q
if_ok (Ok l) more h = more l h
if_ok (Err e) more h = h

pub built_with : (k : Task) (kept : List Case) (q : Query) (f : Formula) → StatesQuery k kept q f.vars f.clauses → bits_of (coding k) (question_of q) + 1 ≤ f.vars → f.vars ≤ 2147483647
    → 0 < length f.clauses → All (λ (d : Clause). d.lits ≢ []) f.clauses → IsBuilt k kept q f
built_with k kept q f states own few some none_empty = record { states = states; own = own; few = few; some = some; none_empty = none_empty }

module _ (k : Task) (kept : List Case) (x : Session) (f : Formula) (built : IsBuilt k kept x.query f) (few : cases_of x.query ≤ length kept) where
  -- a log of the built formula
  backed_by : (log : Log) → LogFollows f.vars f.clauses log.steps → (budget : ℕ) → IsBacked (space k budget) (coding k) kept (session_with x.query f log)
  backed_by log follows budget = record {
    cases = few;
    states = built.states budget;
    some = built.some;
    few = built.few;
    follows = follows;
  }

  pub backed : x.formula ≡ f → LogFollows f.vars f.clauses x.log.steps → (budget : ℕ) → IsBacked (space k budget) (coding k) kept x
  backed same follows budget =
      subst (λ (g : Formula). IsBacked (space k budget) (coding k) kept (session_with x.query g x.log)) (sym same) (backed_by x.log follows budget)

  pub bad : (step : ℕ) → x.formula ≡ f → IsBadPlace f x.log.steps step → IsBad k kept x step
  bad step same place =
      subst (λ (g : Formula). IsBad k kept (session_with x.query g x.log) step) (sym same) (built.states, place)

  module _ (led : IsLedBy (bits_of (coding k) (question_of x.query) + 1) f.vars f.clauses) where
    shown_so : (s : Shown) → IsLeft f s → IsShown k x.query f s
    shown_so (shown.Values values) left = left
    shown_so (shown.Spent log) left = record {
      log_is = left.0;
      spent = left.1;
      honest = record { fresh = left.2 built.none_empty; narrow = left.3 (bits_of (coding k) (question_of x.query) + 1) led };
    }

    pub asked : (place : ℕ) (l : Look) → DifferAt x.formula f place → IsAsked f place l → IsLook k kept x l
    asked place look.Follows differ h = absurd h
    asked place look.Anew differ h = record {
      other = session_with x.query f h.0;
      asked = refl;
      differs = differ_not_same x.formula f place differ;
      backed = backed_by h.0 h.1;
      refuted = h.2;
    }
    asked place (look.Other clause g s) differ h =
        let here : IsOther k kept x place f s = record { built_so = built; differ = differ; shown_so = shown_so s h.2 } in
        subst (λ (c : ℕ). IsOther k kept x c g s) (sym h.0) (subst (λ (e : Formula). IsOther k kept x place e s) (sym h.1) here)
    asked place (look.Bad step) differ h = absurd h
