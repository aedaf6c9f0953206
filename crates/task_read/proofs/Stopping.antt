-- A step that stops, stops what it is a step of.
use Rattle.std.proofs.Common.{◌≡◌, ℕ, Result, Ok, Err, IfErr, IsErrAnd, sym, subst}
use Rattle.mpy_tree.specs.declared.refusal.Cause.{Cause}
use Rattle.mpy_tree.specs.declared.refusal.Source.{Source}
use Rattle.mpy_tree.specs.declared.refusal.Refusal.{Refusal}
use Rattle.task_read.specs.declared.error.TaskError.{TaskError}
use Rattle.task_read.specs.declared.error.TaskError.TheVariants.{Refused, NoMemory}
use Rattle.task_read.specs.Errors.{RefusesAs, RefusesBy}
use Rattle.task_read.specs.Sources.{IsOf}

refuses_in : (P Q : Refusal → Type 0) → ((r : Refusal) → P r → Q r) → (x : TaskError) → RefusesAs P x → RefusesAs Q x
refuses_in P Q more (Refused r) h = more r h
refuses_in P Q more NoMemory h = h

pub stopped_in : {T : Type 0} (r : Result T TaskError) (P Q : Refusal → Type 0) (x : TaskError) → IsErrAnd r (λ y. y ≡ x) → RefusesAs P x
    → ((q : Refusal) → P q → Q q) → IfErr r (RefusesAs Q)
stopped_in (Ok t) P Q x is h more = absurd is
stopped_in (Err y) P Q x is h more = subst (RefusesAs Q) (sym is) (refuses_in P Q more x h)

-- the same of refusals of one source
pub stopped : {T : Type 0} (r : Result T TaskError) (s : Source) (P Q : Cause → ℕ → Type 0) (x : TaskError) → IsErrAnd r (λ y. y ≡ x) → RefusesBy s P x
    → ((c : Cause) (line : ℕ) → P c line → Q c line) → IfErr r (RefusesBy s Q)
stopped r s P Q x is h more = stopped_in r (IsOf s P) (IsOf s Q) x is h (λ q k. (k.0, more q.cause q.line k.1))
