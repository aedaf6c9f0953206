-- What holds while questions are asked, after a session more, and a case more.
use Rattle.std.proofs.Common.{◌≡◌, ◌≤◌, ℕ, ◌+◌, ◌-◌, List, [], ◌∷◌, ◌++◌, length, take, map}
use Rattle.std.proofs.Common.{sym, ap, ◌∙◌, arith, length-append}
use Rattle.std.specs.Prelude.{All, sum}
use Rattle.std.specs.List.{Contains}
use Rattle.std.proofs.Math.Seq.{take-append_seam}
use Rattle.std.proofs.lemmas.List.{map_push, take-append-le}
use Rattle.std.proofs.lemmas.List.Sums.{sum_by_push}
use Rattle.std.proofs.lemmas.List.Elements.{All-append, All-cons, All-head, All-nil, All-tail}
use Rattle.choice_tree.specs.declared.selection.Choice.{Choice}
use Rattle.clause_base.specs.declared.clause.Clause.{Clause}
use Rattle.cegis_loop.specs.Space.{Space}
use Rattle.input_space.specs.declared.case.Case.{Case}
use Rattle.input_space.specs.declared.session.Query.{Query}
use Rattle.input_space.specs.declared.session.Query.TheVariants as query
use Rattle.input_space.specs.declared.session.Session.{Session}
use Rattle.input_space.specs.Sessions.{IsBacked, IsHonest, cases_of, logged, question_of}
use Rattle.input_space.specs.Statements.{Coding, States}
use Rattle.input_space.specs.TaskCoding.{coding}
use Rattle.input_space.specs.TaskSpace.{wanted_inputs}
use Rattle.solver_questions.specs.Asking.{Asking, IsAsking, IsNumbered, HasNoEmptyStep, and_case}
use Rattle.solver_questions.specs.Asking.{and_session}
use Rattle.solver_questions.specs.Asking.{space_of, task_of, topic_of}
use Rattle.solver_questions.specs.Replies.{IsSessionOf}

pub one_more : {A : Type 0} (P : A → Type 0) (xs : List A) (x : A) → All P xs → P x
    → All P (xs ++ x ∷ [])
one_more P xs x all own = All-append P xs (x ∷ []) all (All-cons P x [] own (All-nil P))

pub logged_more : (xs : List Session) (x : Session)
    → logged (xs ++ x ∷ []) ≡ logged xs + length x.log.steps
logged_more xs x =
    let many = λ (y : Session). length y.log.steps in
    ap sum (map_push many xs x) ∙ sum_by_push (λ n. n) (map many xs) (length x.log.steps)

-- what is stated where some cases are kept is stated where more are
states_more : (s : Space (List Choice) Case) (d : Coding (List Choice) Case) (kept more : List Case)
    (q : Query) (vars : ℕ) (clauses : List Clause) → cases_of q ≤ length kept
    → States s d kept (question_of q) vars clauses
    → States s d (kept ++ more) (question_of q) vars clauses
states_more s d kept more query.First vars clauses few states = states
states_more s d kept more (query.Low most cases) vars clauses few states =
    let same : take cases kept ≡ take cases (kept ++ more) = sym (take-append-le cases kept more few) in
    rw same at states
states_more s d kept more (query.Fail c) vars clauses few states = states

pub backed_more : (s : Space (List Choice) Case) (d : Coding (List Choice) Case)
    (kept more : List Case) (x : Session) → IsBacked s d kept x → IsBacked s d (kept ++ more) x
backed_more s d kept more x h =
    let both : length (kept ++ more) ≡ length kept + length more = length-append kept more in
    let few : cases_of x.query ≤ length kept = h.cases in
    record {
      cases = omega arith;
      states = states_more s d kept more x.query x.formula.vars x.formula.clauses few h.states;
      some = h.some;
      few = h.few;
      follows = h.follows;
    }

all_backed_more : (s : Space (List Choice) Case) (d : Coding (List Choice) Case)
    (kept more : List Case) (xs : List Session) → All (IsBacked s d kept) xs
    → All (IsBacked s d (kept ++ more)) xs
all_backed_more s d kept more [] all = All-nil (IsBacked s d (kept ++ more))
all_backed_more s d kept more (x ∷ xs) all =
    All-cons (IsBacked s d (kept ++ more)) x xs
    (backed_more s d kept more x (All-head (IsBacked s d kept) x xs all))
    (all_backed_more s d kept more xs (All-tail (IsBacked s d kept) x xs all))

pub with_session : (a : Asking) (x : Session) (n : ℕ) → IsAsking a
    → IsSessionOf (task_of a) a.kept x.query n x
    → logged a.sessions + length x.log.steps ≤ a.budget → IsAsking (and_session a x)
with_session a x n is own within =
    let more = logged_more a.sessions x in
    record {
      wanted = is.wanted;
      backed = one_more (IsBacked (space_of (topic_of a)) (coding (task_of a)) a.kept) a.sessions x
          is.backed (own.backed a.budget);
      honest = one_more (IsHonest (coding (task_of a))) a.sessions x is.honest own.honest;
      unrefuted = one_more HasNoEmptyStep a.sessions x is.unrefuted own.unrefuted;
      numbered = one_more IsNumbered a.sessions x is.numbered own.numbered;
      within = omega arith;
    }

pub with_case : (a : Asking) (x : Case) (y : Session) (n : ℕ) → IsAsking a
    → Contains (wanted_inputs (task_of a)) x → IsSessionOf (task_of a) a.kept y.query n y
    → logged a.sessions + length y.log.steps ≤ a.budget → IsAsking (and_case a x y)
with_case a x y n is wanted own within =
    let s = space_of (topic_of a) in
    let d = coding (task_of a) in
    let P = IsBacked s d (a.kept ++ x ∷ []) in
    let more = logged_more a.sessions y in
    record {
      wanted = one_more (Contains (wanted_inputs (task_of a))) a.kept x is.wanted wanted;
      backed = one_more P a.sessions y (all_backed_more s d a.kept (x ∷ []) a.sessions is.backed)
          (backed_more s d a.kept (x ∷ []) y (own.backed a.budget));
      honest = one_more (IsHonest d) a.sessions y is.honest own.honest;
      unrefuted = one_more HasNoEmptyStep a.sessions y is.unrefuted own.unrefuted;
      numbered = one_more IsNumbered a.sessions y is.numbered own.numbered;
      within = omega arith;
    }

-- what is kept after the last one is taken back
pub without_last : {A : Type 0} (xs : List A) (x : A) (more back : List A) → more ≡ xs ++ x ∷ []
    → back ≡ take (length more - 1) more → back ≡ xs
without_last xs x more back e f =
    let many : length (xs ++ x ∷ []) ≡ length xs + 1 = length-append xs (x ∷ []) in
    let fewer : length (xs ++ x ∷ []) - 1 ≡ length xs = omega arith in
    f ∙ ap (λ ys. take (length ys - 1) ys) e ∙ ap (λ n. take n (xs ++ x ∷ [])) fewer
    ∙ take-append_seam xs (x ∷ [])
