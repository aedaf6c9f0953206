-- The sessions of a whole search are a trail.
use Rattle.std.proofs.Common.{◌≡◌, ℕ, suc, ◌-◌, ◌+◌, Bool, true, false, List, [], ◌∷◌, ◌++◌, length, map, Some, refl, sym, ap, subst, ◌∙◌, arith}
use Rattle.std.specs.Prelude.{All, IsSomeAnd, slice_get, if◌then◌else◌}
use Rattle.std.proofs.lemmas.List.{length-append}
use Rattle.std.proofs.lemmas.List.Elements.{All-head, All-tail}
use Rattle.choice_tree.specs.declared.selection.Choice.{Choice}
use Rattle.cegis_loop.specs.declared.outcome.Least.{Least}
use Rattle.cegis_loop.specs.declared.outcome.Least.TheVariants.{Found, Nothing, NoCase, Spent, NoMemory}
use Rattle.cegis_loop.specs.Order.{End, NoChoice, NoInput, Settled, Unfinished, IsWholeSearch}
use Rattle.cegis_loop.specs.Space.{Space}
use Rattle.cegis_loop.specs.State.{Question, Told, Open, Refuted}
use Rattle.cegis_loop.specs.WholeAnswers.{EndsWhole, IsWholeAnswer}
use Rattle.input_space.specs.declared.case.Case.{Case}
use Rattle.input_space.specs.declared.session.Session.{Session}
use Rattle.input_space.specs.Sessions.{IsBacked, IsHonest, IsTrail, NoneEmpty, is_refuted, question_of, told_of}
use Rattle.input_space.specs.TaskCoding.{coding}
use Rattle.solver_questions.specs.Asking.{Asking, HasNoEmptyStep, IsNumbered, Topic, seen_in, space_of, task_of, topic_of}
use Rattle.search_certificates.specs.Searches.{IsSearchOf, IsTrailOf}
use Rattle.task_search.proofs.Ending.{left_open}

-- the session that tells the last question
record LastOf (xs : List Session) (t : Told (List Choice)) : Type 0 where
  front : List Session
  last : Session
  all : xs ≡ front ++ last ∷ []
  tells : told_of last ≡ t

last_of : (xs : List Session) (front : List (Told (List Choice))) (t : Told (List Choice)) → map told_of xs ≡ front ++ t ∷ [] → LastOf xs t
last_of [] [] t e = absurd cc
last_of [] (u ∷ front) t e = absurd cc
last_of (x ∷ []) [] t e = record { front = []; last = x; all = refl; tells = cc }
last_of (x ∷ y ∷ xs) [] t e = absurd cc
last_of (x ∷ xs) (u ∷ front) t e =
    let tail : map told_of xs ≡ front ++ t ∷ [] = cc in
    let r = last_of xs front t tail in
    record { front = x ∷ r.front; last = r.last; all = ap (λ ys. x ∷ ys) r.all; tells = r.tells }

at_end : (xs : List Session) (x : Session) → slice_get (xs ++ x ∷ []) (length xs) ≡ Some x
at_end [] x = refl
at_end (y ∷ xs) x = at_end xs x

of_last : (P : Session → Type 0) (xs : List Session) (x : Session) → All P (xs ++ x ∷ []) → P x
of_last P [] x all = All-head P x [] all
of_last P (y ∷ xs) x all = of_last P xs x (All-tail P y (xs ++ x ∷ []) all)

-- a session that tells an open question isn't refuted
by_test : (b : Bool) (q r : Question (List Choice)) → (if b then Refuted q else Open q) ≡ Open r → b ≡ false
by_test true q r e = absurd cc
by_test false q r e = refl

last_left : (xs : List Session) (r : Question (List Choice)) (l : LastOf xs (Open r)) → All HasNoEmptyStep xs
    → IsSomeAnd (slice_get xs (length xs - 1)) (λ x. NoneEmpty x.log.steps)
last_left xs r l none =
    let x = l.last in
    let here : length xs - 1 ≡ length l.front = (let n = ap length l.all ∙ length-append l.front (x ∷ []) in omega arith) in
    let at : slice_get xs (length xs - 1) ≡ Some x = ap (slice_get xs) here ∙ ap (λ ys. slice_get ys (length l.front)) l.all ∙ at_end l.front x in
    let clear : NoneEmpty x.log.steps =
    of_last HasNoEmptyStep l.front x (subst (All HasNoEmptyStep) l.all none) (by_test (is_refuted x.log.steps) (question_of x.query) r l.tells) in
    subst (λ o. IsSomeAnd o (λ y. NoneEmpty y.log.steps)) (sym at) clear

ended : (s : Space (List Choice) Case) (kept : List Case) (xs : List Session) (end : End (List Choice)) → (end ≡ Unfinished → ⊥) → IsWholeSearch s kept (map told_of xs) end → IsTrail s kept xs end
ended s kept xs end not h = record { search = h; left = λ e. absurd (not e) }

pub trail_of : (s : Space (List Choice) Case) (kept : List Case) (xs : List Session) (found : Least (List Choice))
    → (found ≡ NoMemory → ⊥) → All HasNoEmptyStep xs → EndsWhole s kept (map told_of xs) found → IsTrailOf s kept xs found
trail_of s kept xs (Found c cost) some none h = (h.0.0, ended s kept xs (Settled c h.0.0) (λ e. cc) h.0.1)
trail_of s kept xs Nothing some none h = ended s kept xs NoChoice (λ e. cc) h
trail_of s kept xs NoCase some none h = ended s kept xs NoInput (λ e. cc) h
trail_of s kept xs (Spent k) some none h =
    let o = left_open h.0 in
    (record { search = h.0; left = λ e. last_left xs o.last (last_of xs o.front (Open o.last) o.all) none }, h.1)
trail_of s kept xs NoMemory some none h = absurd (some refl)

-- what questions leave that were asked about a task
pub search_of : (a : Asking) (about was : Topic) (found : Least (List Choice)) → topic_of a ≡ about → was ≡ about → (found ≡ NoMemory → ⊥)
    → IsWholeAnswer (space_of was) (seen_in a) found
    → All HasNoEmptyStep a.sessions → All (IsBacked (space_of (topic_of a)) (coding (task_of a)) a.kept) a.sessions
    → All (IsHonest (coding (task_of a))) a.sessions → All IsNumbered a.sessions
    → IsSearchOf about.task about.budget (record { found = found; kept = a.kept; sessions = a.sessions })
search_of a about was found same before some answer none backed honest numbered =
    let whole : IsWholeAnswer (space_of about) (seen_in a) found = subst (λ t. IsWholeAnswer (space_of t) (seen_in a) found) before answer in
    record {
      answer = whole;
      trail = trail_of (space_of about) a.kept a.sessions found some none whole.asked;
      backed = subst (λ (t : Topic). All (IsBacked (space_of t) (coding t.task) a.kept) a.sessions) same backed;
      honest = subst (λ (t : Topic). All (IsHonest (coding t.task)) a.sessions) same honest;
      numbered = numbered;
    }
