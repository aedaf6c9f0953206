-- A run of a typed program whose calls check their arguments is the run itself.
use Rattle.std.proofs.Common.{◌≡◌, ℕ, zero, suc, ◌-◌, Bool, true, false, List, if◌then◌else◌, IsTrue, refl, subst}
use Rattle.std.specs.declared.result.Result.{Result}
use Rattle.std.specs.declared.result.Result.TheVariants.{Err}
use Rattle.mpy_tree.specs.declared.limits.Limits.{Limits}
use Rattle.mpy_tree.specs.declared.value.Value.{Value}
use Rattle.mpy_tree.specs.declared.outcome.Halt.{Halt}
use Rattle.mpy_tree.specs.declared.outcome.Halted.{Halted}
use Rattle.mpy_tree.specs.Syntax.{Routine}
use Rattle.mpy_tree.specs.Values.{stuck}
use Rattle.mpy_tree.specs.Running.{found, calls_below, kept_first, evaluated, no_calls}
use Rattle.mpy_tree.specs.SetTypes.{FactSet, called}
use Rattle.mpy_tree.specs.Rules.{single}
use Rattle.typed_programs.specs.CheckedRuns.{checked_below, checked_run}
use Rattle.typed_programs.specs.Keeping.{IsFault, IsFor, EndsFor, Gives, KeepTypes, takes_call, result_slot}
use Rattle.typed_programs.proofs.Linked.{AreFineFrom}
use Rattle.typed_programs.proofs.Programs.{call_gives, run_gives}
use Rattle.typed_programs.proofs.Refining.{Refines, same, is_stuck, call_refines, run_refines}

checked_refines : {A : Type 0} (b : Bool) (r q : Result A Halted) (line : ℕ) → Refines r q → Refines (if b then r else Err (stuck line)) q
checked_refines true r q line h = h
checked_refines false r q line h = is_stuck (stuck line) q refl

passed : {A : Type 0} (P : A → Type 0) (b : Bool) (r q : Result A Halted) → b ≡ true → Gives P r → Gives P (if b then r else q)
passed P true r q e h = h
passed P false r q e h = absurd (cc)

-- what isn't stuck is the same
pub unstuck : {A : Type 0} (P : A → Type 0) (r q : Result A Halted) → Refines r q → Gives P r → r ≡ q
unstuck P _ _ (same r) h = refl
unstuck P _ _ (is_stuck x q e) h = let Q : Halt → Type 0 = λ w. IsFault w in absurd (subst Q e h)

module _ (l : Limits) (F : FactSet) (p : List Routine) where
  pub below_refines : (d : ℕ) (f : List ℕ) (vs : List Value) (line : ℕ) → Refines (checked_below l (single F) p d f vs line) (calls_below l p d f vs line)
  below_refines zero f vs line = checked_refines (takes_call (single F) l (called p f) vs) _ _ line (same (no_calls f vs line))
  below_refines (suc d) f vs line =
      checked_refines (takes_call (single F) l (called p f) vs) _ _ line
      (call_refines l (checked_below l (single F) p d) (calls_below l p d) (below_refines d) (found p f) vs line)

  pub checked_keep : AreFineFrom F p 0 p → (d : ℕ) → KeepTypes (single F) l p (checked_below l (single F) p d)
  checked_keep h zero f vs line a =
      passed (IsFor l (result_slot (single F) (called p f))) (takes_call (single F) l (called p f) vs) (no_calls f vs line) _ a tt
  checked_keep h (suc d) f vs line a =
      passed (IsFor l (result_slot (single F) (called p f))) (takes_call (single F) l (called p f) vs) _ _ a
      (call_gives l F p (checked_below l (single F) p d) (checked_keep h d) h f vs line a)

  -- the run of the whole program
  pub checked_run_refines : (entry : List ℕ) (vs : List Value) → Refines (checked_run l (single F) p entry vs) (evaluated l p entry vs)
  checked_run_refines entry vs =
      checked_refines (takes_call (single F) l (called p entry) vs) _ _ 1
      (run_refines l (checked_below l (single F) p (l.depth - 1)) (calls_below l p (l.depth - 1)) (below_refines (l.depth - 1)) (kept_first l) (found p entry) vs 1)

  pub checked_run_gives : AreFineFrom F p 0 p → (entry : List ℕ) (vs : List Value) → IsTrue (takes_call (single F) l (called p entry) vs) → Gives (EndsFor l (result_slot (single F) (called p entry))) (checked_run l (single F) p entry vs)
  checked_run_gives h entry vs a =
      passed (EndsFor l (result_slot (single F) (called p entry))) (takes_call (single F) l (called p entry) vs) _ _ a
      (run_gives l F p (kept_first l) (checked_below l (single F) p (l.depth - 1)) (checked_keep h (l.depth - 1)) h entry vs 1 a)
