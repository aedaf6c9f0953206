-- What the reader of a program answers, from what it finds.
use Rattle.std.proofs.Common.{◌≡◌, ℕ, List, Result, Ok, Err, IfOk, IfErr, subst}
use Rattle.mpy_tree.specs.declared.refusal.Cause.{Cause}
use Rattle.mpy_tree.specs.declared.refusal.Source.{Source}
use Rattle.mpy_tree.specs.declared.tree.Prog.{Prog}
use Rattle.mpy_tree.specs.declared.typing.Fact.{Fact}
use Rattle.mpy_tree.specs.declared.typing.Ty.{Ty}
use Rattle.mpy_tree.specs.declared.typing.TypeError.{TypeError}
use Rattle.mpy_tree.specs.declared.typing.TypeError.TheVariants.{Fault, Conflict}
use Rattle.mpy_tree.specs.declared.typing.Types.{Types}
use Rattle.mpy_tree.specs.Entries.{Entry}
use Rattle.mpy_tree.specs.Typings.{Checks}
use Rattle.mpy_tree.specs.Syntax.{Routine}
use Rattle.mpy_tree.specs.View.{routines_of}
use Rattle.task_read.specs.declared.error.TaskError.{TaskError}
use Rattle.task_read.specs.declared.error.TaskError.TheVariants.{Refused, NoMemory}
use Rattle.task_read.specs.Errors.{RefusesBy, IsGiven, IsRefusal}
use Rattle.task_read.specs.TypedPrograms.{IsFaultOf, IsTypedProgram, IsProgramRefused}
use Rattle.task_read.proofs.OneAnswer.{one_typed_program, not_typed_and_refused, one_refusal}

-- what was found is right
abbrev pub IsRight : List ℕ → Entry → Source → Result (Prog × Types) TaskError → Type 0
IsRight bytes e s (Ok r) = IsTypedProgram bytes e (routines_of r.0) r.1.facts
IsRight bytes e s (Err x) = RefusesBy s (IsProgramRefused bytes e) x

pub right : (bytes : List ℕ) (e : Entry) (s : Source) (r : Result (Prog × Types) TaskError)
    → IfOk r (λ x. IsTypedProgram bytes e (routines_of x.0) x.1.facts) → IfErr r (RefusesBy s (IsProgramRefused bytes e)) → IsRight bytes e s r
right bytes e s (Ok x) ok err = ok
right bytes e s (Err x) ok err = err

-- a text that spells a typed program is read as it
pub given_by : (bytes : List ℕ) (e : Entry) (s : Source) (r : Result (Prog × Types) TaskError) → IsRight bytes e s r
    → (p : List Routine) (T : List Fact) → IsTypedProgram bytes e p T → IsGiven p T r
given_by bytes e s (Ok r) so p T t = one_typed_program bytes e (routines_of r.0) p r.1.facts T so t
given_by bytes e s (Err (Refused x)) so p T t = not_typed_and_refused bytes e p T x.cause x.line t so.1
given_by bytes e s (Err NoMemory) so p T t = tt

-- a text that is refused is answered so
pub refused_by : (bytes : List ℕ) (e : Entry) (s : Source) (r : Result (Prog × Types) TaskError) → IsRight bytes e s r
    → (c : Cause) (line : ℕ) → IsProgramRefused bytes e c line → IsRefusal s c line r
refused_by bytes e s (Ok r) so c line h = not_typed_and_refused bytes e (routines_of r.0) r.1.facts c line so h
refused_by bytes e s (Err (Refused x)) so c line h =
    let same = one_refusal bytes e x.cause c x.line line so.1 h in
    (so.0, same.0, same.1)
refused_by bytes e s (Err NoMemory) so c line h = tt

-- what the check of names and types answered
pub at_fault : (r : Result Types TypeError) (p : List Routine) (e : Entry) (c : Cause) (line : ℕ) → r ≡ Err (Fault c line) → Checks r p e → IsFaultOf (Fault c line) p e
at_fault r p e c line is h = subst (λ x. Checks x p e) is h

pub at_conflict : (r : Result Types TypeError) (p : List Routine) (e : Entry) (line : ℕ) (one other : Ty) → r ≡ Err (Conflict line one other) → Checks r p e
    → IsFaultOf (Conflict line one other) p e
at_conflict r p e line one other is h = subst (λ x. Checks x p e) is h

pub same_entry : (a b : Entry) → a.name ≡ b.name → a.types ≡ b.types → a.free_result ≡ b.free_result → a ≡ b
same_entry a b name types free = λ i. record { name = name i; types = types i; free_result = free i }
