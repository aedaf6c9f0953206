-- What the comparison of two ends as bits tells of them.
use Rattle.std.proofs.Common.{◌≡◌, ◌∙◌, ◌↔◌, Bool, true, false, not, ◌&&◌, IsTrue, ap, refl, sym}
use Rattle.std.specs.declared.result.Result.{Result}
use Rattle.std.specs.declared.result.Result.TheVariants.{Ok, Err}
use Rattle.std.proofs.lemmas.Bool.{true≢false}
use Rattle.mpy_tree.specs.declared.limits.Limits.{Limits}
use Rattle.mpy_tree.specs.declared.outcome.Halted.{Halted}
use Rattle.mpy_tree.specs.Outcomes.{is_done, outcome_of}
use Rattle.mpy_tree.specs.Running.{Done}
use Rattle.sym_values.specs.declared.done.SymDone.{SymDone}
use Rattle.sym_values.specs.Printed.{DoneReads}
use Rattle.test_picker.specs.Comparing.{TellsFailure}

pub and_same : (a b c d : Bool) → a ≡ c → b ≡ d → (a && b) ≡ (c && d)
and_same a b c d p q = λ i. p i && q i

-- where both end without a fault
two_ends : (same : Bool) (x y : Done) → IsTrue same ↔ (x ≡ y)
    → TellsFailure (not same) (outcome_of (Ok x)) (outcome_of (Ok y))
two_ends true x y e = λ done. ap (λ (d : Done). outcome_of (Ok d)) (sym (e.0 refl))
two_ends false x y e = λ alike.
    let back : outcome_of (Ok y) ≡ outcome_of (Ok x) = alike refl in
    let value : x.value ≡ y.value = cc in
    let printed : x.printed ≡ y.printed = cc in
    true≢false (sym (e.1 (λ i. record { value = value i; printed = printed i })))

module _ {B : Type 0} (l : Limits) (rd : B → Bool) where
  -- the bits of two faults, and whether the ends are one
  pub tells : (a b : SymDone B) (f k same : Bool) (x y : Result Done Halted) → f ≡ rd a.fault
      → k ≡ rd b.fault → DoneReads l rd a x → DoneReads l rd b y
      → ((v w : Done) → DoneReads {E = Halted} l rd a (Ok v) → DoneReads {E = Halted} l rd b (Ok w)
      → IsTrue same ↔ (v ≡ w))
      → TellsFailure (not f && not (not k && same)) (outcome_of x) (outcome_of y)
  tells a b true k same (Ok v) y p q h i e = absurd (true≢false (p ∙ h.0))
  tells a b true k same (Err u) y p q h i e = λ done. absurd (true≢false (sym done))
  tells a b false k same (Err u) y p q h i e = absurd (true≢false (sym (p ∙ h)))
  tells a b false true same (Ok v) (Ok w) p q h i e = absurd (true≢false (q ∙ i.0))
  tells a b false true same (Ok v) (Err u) p q h i e = λ alike.
      true≢false (sym (ap is_done (alike refl)))
  tells a b false false same (Ok v) (Ok w) p q h i e = two_ends same v w (e v w h i)
  tells a b false false same (Ok v) (Err u) p q h i e = absurd (true≢false (sym (q ∙ i)))
