-- The sessions of a list: which selections they ask of.
use Rattle.std.proofs.Common.{◌≡◌, ◌≢◌, Bool, true, false, List, [], ◌∷◌, ◌++◌, map, Some, refl, sym, ap, ◌∙◌, arith, subst}
use Rattle.std.specs.Prelude.{All, if◌then◌else◌}
use Rattle.std.specs.List.{Contains}
use Rattle.std.proofs.lemmas.List.{map_push}
use Rattle.std.proofs.lemmas.List.Elements.{All-cons, All-head, All-nil, All-push, All-tail, All-weaker, Contains-append_left, Contains-push}
use Rattle.std.proofs.lemmas.List.Quantifiers.{all_pairs_push}
use Rattle.choice_tree.specs.declared.selection.Choice.{Choice}
use Rattle.cegis_loop.specs.Space.{Space}
use Rattle.cegis_loop.specs.State.{Question, Fail, Told, Refuted, Open}
use Rattle.input_space.specs.declared.case.Case.{Case}
use Rattle.input_space.specs.declared.session.Query.{Query}
use Rattle.input_space.specs.declared.session.Query.TheVariants as query
use Rattle.input_space.specs.declared.session.Session.{Session}
use Rattle.input_space.specs.Sessions.{IsBacked, cases_of, is_refuted, question_of, told_of}
use Rattle.input_space.specs.Statements.{Coding, States}
use Rattle.least_all.specs.Answers.{AskOf}
use Rattle.least_all.specs.Listings.{AsksMore, HasAsked}

-- NO QUESTION MORE

contained_more : (done : List (List Choice)) (s : List Choice) (asked : List (List Choice)) → All (Contains done) asked
    → All (Contains (done ++ s ∷ [])) asked
contained_more done s asked all =
    All-weaker (Contains done) (Contains (done ++ s ∷ [])) (λ r c. Contains-append_left done (s ∷ []) r c) asked all

pub asks_nothing : (s : List Choice) (old new : List Session) → new ≡ old → AsksMore s old new
asks_nothing s old new same done fresh has = record {
  asked = has.asked;
  questions = ap (map (λ (x : Session). question_of x.query)) same ∙ has.questions;
  among = contained_more done s has.asked has.among;
  different = has.different;
}

-- ONE MORE

abbrev pub question_in : Told (List Choice) → Question (List Choice)
question_in (Refuted q) = q
question_in (Open q) = q

question_by : (b : Bool) (q : Question (List Choice)) → question_in (if b then Refuted q else Open q) ≡ q
question_by true q = refl
question_by false q = refl

questions_told : (xs : List Session) → map (λ (x : Session). question_of x.query) xs ≡ map question_in (map told_of xs)
questions_told [] = refl
questions_told (x ∷ xs) =
    ap (λ q. q ∷ map (λ (y : Session). question_of y.query) xs) (sym (question_by (is_refuted x.log.steps) (question_of x.query)))
    ∙ ap (λ qs. question_in (told_of x) ∷ qs) (questions_told xs)

same_inside : {A : Type 0} (x y : A) → Some x ≡ Some y → x ≡ y
same_inside x y e = cc

pub asks_one : (s : List Choice) (old new : List Session) (t : Told (List Choice)) → question_in t ≡ Fail s
    → Some (map told_of new) ≡ Some (map told_of old ++ t ∷ []) → AsksMore s old new
asks_one s old new t of told done fresh has =
    let all : map told_of new ≡ map told_of old ++ t ∷ [] = same_inside (map told_of new) (map told_of old ++ t ∷ []) told in
    record {
      asked = has.asked ++ s ∷ [];
      questions =
          questions_told new ∙ ap (map question_in) all ∙ map_push question_in (map told_of old) t
          ∙ ap (λ q. map question_in (map told_of old) ++ q ∷ []) of
          ∙ ap (λ qs. qs ++ Fail s ∷ []) (sym (questions_told old) ∙ has.questions)
          ∙ sym (map_push Fail has.asked s);
      among = All-push (Contains (done ++ s ∷ [])) has.asked s (contained_more done s has.asked has.among) (Contains-push done s);
      different = all_pairs_push (λ r u. r ≢ u) has.asked s has.different
          (λ i d within same. fresh (subst (Contains done) same (has.among i d within)));
    }

-- at the start
pub none_asked : (xs : List Session) → xs ≡ [] → HasAsked [] xs
none_asked xs none = record {
  asked = [];
  questions = ap (map (λ (x : Session). question_of x.query)) none;
  among = All-nil (Contains []);
  different = λ i j d lt within. absurd (omega arith);
}

-- AT THE END

fail_query : (q : Query) (s : List Choice) → question_of q ≡ Fail s → q ≡ query.Fail s
fail_query query.First s e = absurd cc
fail_query (query.Low most cases) s e = absurd cc
fail_query (query.Fail r) s e = let same : r ≡ s = cc in ap query.Fail same

queries_of : (xs : List Session) (asked : List (List Choice)) → map (λ (x : Session). question_of x.query) xs ≡ map Fail asked
    → map (λ (x : Session). x.query) xs ≡ map query.Fail asked
queries_of [] [] e = refl
queries_of [] (s ∷ asked) e = absurd cc
queries_of (x ∷ xs) [] e = absurd cc
queries_of (x ∷ xs) (s ∷ asked) e =
    let here : question_of x.query ≡ Fail s = cc in
    let rest : map (λ (y : Session). question_of y.query) xs ≡ map Fail asked = cc in
    ap (λ q. q ∷ map (λ (y : Session). y.query) xs) (fail_query x.query s here)
    ∙ ap (λ qs. query.Fail s ∷ qs) (queries_of xs asked rest)

pub asks_of : (ss : List (List Choice)) (xs : List Session) → HasAsked ss xs → AskOf ss xs
asks_of ss xs has = record {
  asked = has.asked;
  queries = queries_of xs has.asked has.questions;
  among = has.among;
  different = has.different;
}

-- a question for a failure is backed whatever cases are kept
fail_states : (s : Space (List Choice) Case) (d : Coding (List Choice) Case) (kept : List Case) (q : Query) (r : List Choice) (x : Session)
    → x.query ≡ query.Fail r → States s d kept (question_of x.query) x.formula.vars x.formula.clauses
    → States s d [] (question_of x.query) x.formula.vars x.formula.clauses
fail_states s d kept q r x is states =
    let here : States s d kept (Fail r) x.formula.vars x.formula.clauses =
    subst (λ p. States s d kept (question_of p) x.formula.vars x.formula.clauses) is states in
    subst (λ p. States s d [] (question_of p) x.formula.vars x.formula.clauses) (sym is) here

fail_backed : (s : Space (List Choice) Case) (d : Coding (List Choice) Case) (kept : List Case) (r : List Choice) (x : Session)
    → x.query ≡ query.Fail r → IsBacked s d kept x → IsBacked s d [] x
fail_backed s d kept r x is backed =
    let none : cases_of x.query ≡ 0 = ap cases_of is in
    record {
      cases = omega arith;
      states = fail_states s d kept x.query r x is backed.states;
      some = backed.some;
      few = backed.few;
      follows = backed.follows;
    }

pub all_fail_backed : (s : Space (List Choice) Case) (d : Coding (List Choice) Case) (kept : List Case) (xs : List Session) (asked : List (List Choice))
    → map (λ (x : Session). x.query) xs ≡ map query.Fail asked → All (IsBacked s d kept) xs → All (IsBacked s d []) xs
all_fail_backed s d kept [] asked e all = All-nil (IsBacked s d [])
all_fail_backed s d kept (x ∷ xs) [] e all = absurd cc
all_fail_backed s d kept (x ∷ xs) (r ∷ asked) e all =
    let here : x.query ≡ query.Fail r = cc in
    let rest : map (λ (y : Session). y.query) xs ≡ map query.Fail asked = cc in
    All-cons (IsBacked s d []) x xs (fail_backed s d kept r x here (All-head (IsBacked s d kept) x xs all))
    (all_fail_backed s d kept xs asked rest (All-tail (IsBacked s d kept) x xs all))
