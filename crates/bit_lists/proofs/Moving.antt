-- Lists whose items go up or down, step by step.
use Rattle.std.proofs.Common.{◌≡◌, ℕ, zero, suc, ◌+◌, ◌-◌, ◌<◌, ◌≤◌, ◌*◌, ◌^◌, Bool, true, false, List, [], length, sym, ap, ◌∙◌, arith, get_or, cond}
use Rattle.std.specs.Prelude.{nat_lt}
use Rattle.std.proofs.lemmas.Bool.Decides.{nat_tests}
use Rattle.bit_words.specs.Words.{bit_value}
use Rattle.bit_lists.specs.declared.shifts.Direction.{Direction}
use Rattle.bit_lists.specs.declared.shifts.Direction.TheVariants.{Up, Down}
use Rattle.bit_lists.specs.Moves.{source, IsMoved}

source_up : (by k : ℕ) → by ≤ k → cond (nat_lt k by) k (k - by) ≡ k - by
source_up by k h = grind (arith, nat_tests)

source_down : (by count k : ℕ) → k + by < count → cond (nat_lt (k + by) count) (k + by) k ≡ k + by
source_down by count k h = grind (arith, nat_tests)

-- one step more
pub step_more : (d : Direction) (n by : ℕ) (b : Bool) (old mid new : List (List Bool)) (count : ℕ) → count ≡ length old → IsMoved d n old mid
    → ((k : ℕ) → k < count → get_or new k [] ≡ cond b (get_or mid (source d by count k) []) (get_or mid k [])) → IsMoved d (n + by * bit_value b) old new
step_more Up n by true old mid new count long before now = λ k h.
    let place : k + (n + by * 1) ≡ k + n + by = omega arith in
    let at : cond (nat_lt (k + n + by) by) (k + n + by) (k + n + by - by) ≡ k + n = source_up by (k + n + by) (omega arith) ∙ omega arith in
    ap (λ j. get_or new j []) place ∙ now (k + n + by) (omega arith) ∙ ap (λ j. get_or mid j []) at ∙ before k (omega arith)
step_more Up n by false old mid new count long before now = λ k h.
    let place : k + (n + by * 0) ≡ k + n = omega arith in
    ap (λ j. get_or new j []) place ∙ now (k + n) (omega arith) ∙ before k (omega arith)
step_more Down n by true old mid new count long before now = λ k h.
    let place : k + (n + by * 1) ≡ k + by + n = omega arith in
    now k (omega arith) ∙ ap (λ j. get_or mid j []) (source_down by count k (omega arith)) ∙ before (k + by) (omega arith) ∙ ap (λ j. get_or old j []) (sym place)
step_more Down n by false old mid new count long before now = λ k h.
    let place : k + (n + by * 0) ≡ k + n = omega arith in
    now k (omega arith) ∙ before k (omega arith) ∙ ap (λ j. get_or old j []) (sym place)

pub not_moved : (d : Direction) (old new : List (List Bool)) → new ≡ old → IsMoved d 0 old new
not_moved Up old new e = λ k h. let same : k + 0 ≡ k = omega arith in ap (λ j. get_or new j []) same ∙ ap (λ v. get_or v k []) e
not_moved Down old new e = λ k h. let same : k + 0 ≡ k = omega arith in ap (λ v. get_or v k []) e ∙ ap (λ j. get_or old j []) (sym same)

pub small_power : (i : ℕ) → i < 5 → 2 ^ i ≤ 16
small_power zero h = omega arith
small_power (suc zero) h = omega arith
small_power (suc (suc zero)) h = omega arith
small_power (suc (suc (suc zero))) h = omega arith
small_power (suc (suc (suc (suc zero)))) h = omega arith
small_power (suc (suc (suc (suc (suc i))))) h = absurd (omega arith)
