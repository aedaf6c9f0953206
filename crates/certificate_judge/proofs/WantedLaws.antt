-- Inputs on which the reference of a task gives a value.
use Rattle.std.proofs.Common.{◌≡◌, true, map, List, ℕ, suc, ◌+◌, take, Some, slice_get, subst, arith}
use Rattle.std.specs.List.{Contains}
use Rattle.std.specs.Prelude.{All}
use Rattle.std.proofs.lemmas.List.Elements.{All-push}
use Rattle.input_space.specs.declared.case.Case.{Case}
use Rattle.input_space.specs.Agreement.{IsInput}
use Rattle.input_space.specs.Inputs.{inputs}
use Rattle.input_space.specs.Tasks.{Task}
use Rattle.input_space.specs.TaskSpace.{case_of, is_wanted, wanted_inputs}
use Rattle.input_space.proofs.Elements.{contained_if, map_contains}
use Rattle.cert_text.specs.declared.cert.Cert.{Cert}
use Rattle.certificate_judge.specs.Verdicts.{IsWrongCase}
use Rattle.log_check.proofs.StepLaws.{take_get}

pub wanted_if : (k : Task) (x : Case) → IsInput k.bounds x.values → is_wanted k x ≡ true → Contains (wanted_inputs k) x
wanted_if k x input done = contained_if (is_wanted k) (map case_of (inputs k.bounds.params)) x (map_contains case_of (inputs k.bounds.params) x.values input) done

-- one element more of which a fact holds
pub all_more : {X : Type 0} (P : X → Type 0) (xs : List X) (i : ℕ) (x : X) → slice_get xs i ≡ Some x → All P (take i xs) → P x → All P (take (i + 1) xs)
all_more P xs i x at before here = rw (take_get xs i x at) (All-push P (take i xs) x before here)

-- the first case that isn't one
pub first_off : (k : Task) (c : Cert) (i : ℕ) (x : Case) → slice_get c.cases i ≡ Some x → All (Contains (wanted_inputs k)) (take i c.cases)
    → (Contains (wanted_inputs k) x → ⊥) → IsWrongCase k c (i + 1)
first_off k c i x at before off =
    let e : suc i ≡ i + 1 = omega arith in
    subst (IsWrongCase k c) e (record { one = x; at = at; off = off; before = before })
