-- Sessions that pass, one after the other.
use Rattle.std.proofs.Common.{◌≡◌, ◌≢◌, ℕ, ◌+◌, List, [], ◌∷◌, ◌++◌, take, Some, slice_get, refl, sym, subst, arith, ◌≤◌, length}
use Rattle.std.proofs.Math.Nat.{min-le_left}
use Rattle.std.proofs.lemmas.List.{length-take}
use Rattle.std.proofs.lemmas.List.Elements.{All-nil, All-push}
use Rattle.clause_base.specs.Logs.{Refutes}
use Rattle.log_check.proofs.StepLaws.{take_get}
use Rattle.input_space.specs.declared.case.Case.{Case}
use Rattle.input_space.specs.declared.session.Session.{Session}
use Rattle.input_space.specs.Sessions.{IsBacked}
use Rattle.input_space.specs.TaskCoding.{coding}
use Rattle.input_space.specs.Tasks.{Task}
use Rattle.input_space.specs.TaskSpace.{space}
use Rattle.certificate_judge.specs.Passing.{Mended, no_session, as_it_is, made_anew, Pass}

push_same : {xs ys : List Session} {n : ℕ} (x : Session) → Mended xs ys n → Mended (xs ++ x ∷ []) (ys ++ x ∷ []) n
push_same x no_session = as_it_is no_session
push_same x (as_it_is m) = as_it_is (push_same x m)
push_same x (made_anew q f m e) = made_anew q f (push_same x m) e

push_anew : {xs ys : List Session} {n : ℕ} (x y : Session) → y.query ≡ x.query → y.formula ≢ x.formula → Mended xs ys n → Mended (xs ++ x ∷ []) (ys ++ y ∷ []) (n + 1)
push_anew x y q f no_session = made_anew q f no_session refl
push_anew x y q f (as_it_is m) = as_it_is (push_anew x y q f m)
push_anew x y q f (made_anew {anew = k} {more = more} p g m e) = made_anew p g (push_anew x y q f m) (omega (arith, e))

pub pass_none : (k : Task) (kept : List Case) → Pass k kept [] 0
pass_none k kept = record {
  sessions = [];
  mended = no_session;
  backed = λ budget. All-nil (IsBacked (space k budget) (coding k) kept);
  refuted = All-nil (λ (x : Session). Refutes x.log.steps);
}

pub pass_follows : (k : Task) (kept : List Case) (xs : List Session) (i n : ℕ) (x : Session) → slice_get xs i ≡ Some x
    → Pass k kept (take i xs) n → ((budget : ℕ) → IsBacked (space k budget) (coding k) kept x) → Refutes x.log.steps → Pass k kept (take (i + 1) xs) n
pass_follows k kept xs i n x at p backed refuted =
    subst (λ (ys : List Session). Pass k kept ys n) (sym (take_get xs i x at)) (record {
      sessions = p.sessions ++ x ∷ [];
      mended = push_same x p.mended;
      backed = λ budget. All-push (IsBacked (space k budget) (coding k) kept) p.sessions x (p.backed budget) (backed budget);
      refuted = All-push (λ (y : Session). Refutes y.log.steps) p.sessions x p.refuted refuted;
    })

pub pass_anew : (k : Task) (kept : List Case) (xs : List Session) (i n : ℕ) (x y : Session) → slice_get xs i ≡ Some x
    → Pass k kept (take i xs) n → y.query ≡ x.query → y.formula ≢ x.formula → ((budget : ℕ) → IsBacked (space k budget) (coding k) kept y)
    → Refutes y.log.steps → Pass k kept (take (i + 1) xs) (n + 1)
pass_anew k kept xs i n x y at p q f backed refuted =
    subst (λ (ys : List Session). Pass k kept ys (n + 1)) (sym (take_get xs i x at)) (record {
      sessions = p.sessions ++ y ∷ [];
      mended = push_anew x y q f p.mended;
      backed = λ budget. All-push (IsBacked (space k budget) (coding k) kept) p.sessions y (p.backed budget) (backed budget);
      refuted = All-push (λ (z : Session). Refutes z.log.steps) p.sessions y p.refuted refuted;
    })

-- no more are made anew than there are
anew_few : {xs ys : List Session} {n : ℕ} → Mended xs ys n → n ≤ length xs
anew_few no_session = omega arith
anew_few (as_it_is m) = let few = anew_few m in omega (arith, few)
anew_few (made_anew q f m e) = let few = anew_few m in omega (arith, few, e)

pub anew_within : (k : Task) (kept : List Case) (xs : List Session) (i n : ℕ) → Pass k kept (take i xs) n → n ≤ i
anew_within k kept xs i n p =
    let few = anew_few p.mended in
    let front = length-take i xs in
    let least = min-le_left i (length xs) in
    omega (arith, few, front, least)
