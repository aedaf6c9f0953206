-- The puts of a text so far, on a sink that tells its plan and its share.
use Rattle.std.proofs.Common.{◌≡◌, ℕ, suc, ◌+◌, ◌-◌, ◌<◌, ◌≤◌, List, length, take, Option, Some, Ok, Err, IfSome, IsErrAnd, refl, subst, ap, sym, ◌∙◌, arith, inl, inr}
use Rattle.std.specs.Option.{option_map}
use Rattle.std.proofs.lemmas.Bool.{cases_lt}
use Rattle.grade_io.specs.Devices.{SinkState}
use Rattle.grade_io.specs.Faults.{PutFails}
use Rattle.grade_io.specs.Plans.{Plan, IsToFail, after_call}
use Rattle.grade_io.specs.Puts.{AllTake, Puts, WriteEnd, StopsAfter, left_after, plan_after}
use Rattle.grade_io.specs.Says.{IsOfText, end_of}
use Rattle.grade_io.specs.Written.{Wrote}
use Rattle.grade_io.specs.declared.devices.PutError as put_error
use Rattle.grade_io.specs.declared.status.Status.{Status}
use Rattle.grade_io.specs.declared.status.Status.TheVariants as status

-- so many bytes were taken
pub record SoFar (share : ℕ → ℕ) (p : Plan) (bytes done : ℕ) (now : SinkState) : Type 0 where
  pub number : ℕ
  pub all_take : AllTake share p bytes number
  pub left : bytes - done ≡ left_after share bytes number
  pub plan : now.plan ≡ Some (plan_after p number)
  pub told : now.share ≡ Some share

pub begin : (share : ℕ → ℕ) (p : Plan) (bytes : ℕ) (now : SinkState) → now.plan ≡ Some p → now.share ≡ Some share → SoFar share p bytes 0 now
begin share p bytes now plan same = record {
  number = 0;
  all_take = λ m h. absurd (omega arith);
  left = omega arith;
  plan = plan;
  told = same;
}

one_more_takes : (share : ℕ → ℕ) (p : Plan) (bytes n : ℕ) → AllTake share p bytes n → 0 < left_after share bytes n → (IsToFail (plan_after p n) → ⊥) → AllTake share p bytes (suc n)
one_more_takes share p bytes n all some well m h = elim (cases_lt m n) [
  | inl less ↦ all m less
  | inr more ↦ (
      let same : n ≡ m = omega arith in
      subst (λ k. (0 < left_after share bytes k) × (IsToFail (plan_after p k) → ⊥)) same (some, well))
]

told_plan : (o new : Option Plan) (q : Plan) → o ≡ Some q → new ≡ option_map after_call o → new ≡ Some (after_call q)
told_plan o new q is so = so ∙ ap (option_map after_call) is

if_told : {A : Type 0} (o : Option A) (x : A) (P : A → Type 0) → o ≡ Some x → IfSome o P → P x
if_told o x P is h = subst (λ r. IfSome r P) is h

-- a put of a piece that is all that is left, of which n bytes were taken
pub go_on : (share : ℕ → ℕ) (p : Plan) (bytes done n size : ℕ) (old new : SinkState) → done < bytes → size ≡ bytes - done → n ≤ size
    → (0 < size → new.plan ≡ option_map after_call old.plan) → new.share ≡ old.share
    → (0 < size → IfSome old.plan (λ q. IsToFail q → ⊥)) → IfSome old.share (λ f. n ≡ f size)
    → SoFar share p bytes done old → SoFar share p bytes (done + n) new
go_on share p bytes done n size old new some all most plan same well takes so =
    let x : n ≡ share size = if_told old.share share (λ f. n ≡ f size) so.told takes in
    let took : n ≡ share (left_after share bytes so.number) = x ∙ ap share (all ∙ so.left) in
    let before = so.left in
    let there : 0 < left_after share bytes so.number = omega (arith, before) in
    let any : 0 < size = omega (arith, all) in
    record {
      number = suc so.number;
      all_take = one_more_takes share p bytes so.number so.all_take there (if_told old.plan _ (λ q. IsToFail q → ⊥) so.plan (well any));
      left = omega (arith, before, took);
      plan = told_plan old.plan new.plan _ so.plan (plan any);
      told = same ∙ so.told;
    }

-- nothing is left
pub all_put : (share : ℕ → ℕ) (p : Plan) (text : List ℕ) (before now : SinkState) (done : ℕ) → length text ≤ done → Wrote before now (take done text)
    → SoFar share p (length text) done now → done ≤ length text → Puts share p text before now (Ok tt)
all_put share p text before now done all wrote so within =
    let left = so.left in record {
      number = so.number;
      all_take = so.all_take;
      stops = omega (arith, left);
      plan = so.plan;
      written = subst (λ k. Wrote before now (take k text)) (omega (arith, left)) wrote;
    }

stops : (share : ℕ → ℕ) (p : Plan) (bytes n : ℕ) (e : put_error.PutError) → 0 < left_after share bytes n → PutFails {T = ℕ} (Err e) (IsToFail (plan_after p n)) → StopsAfter share p bytes n (Err e)
stops share p bytes n put_error.TheVariants.Failed some due = (some, due)
stops share p bytes n put_error.TheVariants.NoMemory some due = some

-- a put that took nothing of it
pub stop_at : (share : ℕ → ℕ) (p : Plan) (text : List ℕ) (before old new : SinkState) (done size : ℕ) (e : put_error.PutError) → done < length text
    → size ≡ length text - done → Wrote before old (take done text) → new.written ≡ old.written
    → (0 < size → new.plan ≡ option_map after_call old.plan) → (0 < size → IfSome old.plan (λ q. PutFails {T = ℕ} (Err e) (IsToFail q)))
    → SoFar share p (length text) done old → Puts share p text before new (Err e)
stop_at share p text before old new done size e some all wrote kept plan due so =
    let left = so.left in
    let there : 0 < left_after share (length text) so.number = omega (arith, left) in
    let any : 0 < size = omega (arith, all) in
    record {
      number = so.number;
      all_take = so.all_take;
      stops = stops share p (length text) so.number e there (if_told old.plan _ (λ q. PutFails {T = ℕ} (Err e) (IsToFail q)) so.plan (due any));
      plan = told_plan old.plan new.plan _ so.plan (plan any);
      written = kept ∙ subst (λ k. Wrote before old (take k text)) (omega (arith, left)) wrote;
    }

-- the error is handed on
pub stopped_so : (share : ℕ → ℕ) (p : Plan) (text : List ℕ) (before new : SinkState) (e : put_error.PutError) (r : WriteEnd) → IsErrAnd r (λ x. x ≡ e)
    → Puts share p text before new (Err e) → Puts share p text before new r
stopped_so share p text before new e (Ok x) is h = absurd is
stopped_so share p text before new e (Err x) is h = subst (λ y. Puts share p text before new (Err y)) (sym is) h

pub of_text : (s : Status) → IsOfText s → end_of s ≡ Ok tt
of_text status.WriteFailed h = absurd h
of_text status.NoMemory h = absurd h
of_text status.Correct h = refl
of_text status.Corrected h = refl
of_text status.NoCorrection h = refl
of_text status.Spent h = refl
of_text status.Refused h = refl
of_text status.ReadFailed h = refl
of_text status.Usage h = refl
of_text status.StoreFailed h = refl
of_text status.Rejected h = refl
