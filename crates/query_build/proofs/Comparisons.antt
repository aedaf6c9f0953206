-- Whether a run ends without a fault, and whether two runs end as one.
use Rattle.std.proofs.Common.{◌≡◌, ◌∙◌, ◌↔◌, Bool, true, false, not, ◌&&◌, IsTrue, ap, refl, sym}
use Rattle.std.specs.declared.result.Result.{Result}
use Rattle.std.specs.declared.result.Result.TheVariants.{Ok, Err}
use Rattle.mpy_tree.specs.declared.limits.Limits.{Limits}
use Rattle.mpy_tree.specs.declared.outcome.Halted.{Halted}
use Rattle.mpy_tree.specs.declared.outcome.Outcome.TheVariants as outcome
use Rattle.mpy_tree.specs.Outcomes.{outcome_of}
use Rattle.mpy_tree.specs.Running.{Done}
use Rattle.sym_values.specs.declared.done.SymDone.{SymDone}
use Rattle.sym_values.specs.Printed.{DoneReads}
use Rattle.query_build.specs.Comparing.{end_as_one, same_value, same_values}
use Rattle.query_build.proofs.Agreeing.{done_one}

-- two truth values of one statement
one_truth : {P : Type 0} (a b : Bool) → (a ≡ true → P) → (P → a ≡ true) → (b ≡ true → P)
    → (P → b ≡ true) → a ≡ b
one_truth true b p q r s = sym (s (p refl))
one_truth false true p q r s = q (r refl)
one_truth false false p q r s = refl

-- two ends without a fault are one, as outcomes and as they are
as_outcomes : (x y : Done) → x ≡ y
    → outcome.Done x.value x.printed ≡ outcome.Done y.value y.printed
as_outcomes x y e = ap (λ (z : Done). outcome.Done z.value z.printed) e

as_done : (x y : Done) → outcome.Done x.value x.printed ≡ outcome.Done y.value y.printed → x ≡ y
as_done x y e =
    let value : x.value ≡ y.value = cc in
    let printed : x.printed ≡ y.printed = cc in
    λ i. record { value = value i; printed = printed i }

ends_by : (same : Bool) (x y : Done) → IsTrue same ↔ (x ≡ y)
    → same ≡ (same_value x.value y.value && same_values x.printed y.printed)
ends_by same x y e =
    let d = done_one x.value y.value x.printed y.printed in
    one_truth {P = outcome.Done x.value x.printed ≡ outcome.Done y.value y.printed} same
    (same_value x.value y.value && same_values x.printed y.printed)
    (λ h. as_outcomes x y (e.0 h)) (λ h. e.1 (as_done x y h)) d.0 d.1

module _ {B : Type 0} (l : Limits) (rd : B → Bool) where
  pub one_reads : (a b : SymDone B) (same : Bool) (x y : Result Done Halted) → DoneReads l rd a x
      → DoneReads l rd b y
      → ((v w : Done) → DoneReads {E = Halted} l rd a (Ok v) → DoneReads {E = Halted} l rd b (Ok w)
      → IsTrue same ↔ (v ≡ w))
      → (not (rd a.fault) && (not (rd b.fault) && same)) ≡ end_as_one (outcome_of x) (outcome_of y)
  one_reads a b same (Ok v) (Ok w) h k e =
      ap (λ f. not f && (not (rd b.fault) && same)) h.0 ∙ ap (λ f. not f && same) k.0
      ∙ ends_by same v w (e v w h k)
  one_reads a b same (Ok v) (Err f) h k e =
      ap (λ f. not f && (not (rd b.fault) && same)) h.0 ∙ ap (λ f. not f && same) k
  one_reads a b same (Err f) (Ok w) h k e = ap (λ f. not f && (not (rd b.fault) && same)) h
  one_reads a b same (Err f) (Err g) h k e = ap (λ f. not f && (not (rd b.fault) && same)) h
