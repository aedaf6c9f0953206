-- Operations on the outcomes of operands, over truth values alone.
use Rattle.std.proofs.Common.{◌≡◌, ◌∙◌, ℕ, Bool, true, false, refl, sym, ap, subst}
use Rattle.std.specs.Prelude.{◌||◌}
use Rattle.std.specs.declared.result.Result.{Result}
use Rattle.std.specs.declared.result.Result.TheVariants.{Ok, Err}
use Rattle.mpy_tree.specs.declared.value.Value.{Value}
use Rattle.mpy_tree.specs.declared.outcome.Halt.{Halt}
use Rattle.mpy_tree.specs.declared.outcome.Halted.{Halted}
use Rattle.mpy_tree.specs.Values.{◌>>=◌, on_line}
use Rattle.sym_values.specs.Reading.{IsOutcome, Reading, sure}

pub on_its_line : (line : ℕ) (fault : Bool) (reading : Reading) (r : Result Value Halt) → IsOutcome fault reading r → IsOutcome fault reading (on_line line r)
on_its_line line fault reading (Ok v) h = h
on_its_line line fault reading (Err e) h = h

left_true : (a b : Bool) → a ≡ true → (a || b) ≡ true
left_true a b h = ap (λ (i : Bool). i || b) h

right_true : (a b : Bool) → b ≡ true → (a || b) ≡ true
right_true true b h = refl
right_true false b h = h

neither : (a b c : Bool) → a ≡ false → b ≡ false → (a || b || c) ≡ c
neither a b c p q = ap (λ (i : Bool). i || b || c) p ∙ ap (λ (i : Bool). i || c) q

-- the fault of either operand comes before that of the operation
pub two_is : (a b own fault : Bool) (left right reading : Reading) (x y : Result Value Halted) (line : ℕ) (op : Value → Value → Result Value Halt)
    → IsOutcome a left x → IsOutcome b right y → ((v w : Value) → left ≡ sure v → right ≡ sure w → IsOutcome own reading (op v w))
    → fault ≡ ((a || b) || own) → IsOutcome fault reading (x >>= λ v. y >>= λ w. on_line line (op v w))
two_is a b own fault left right reading (Ok v) (Ok w) line op h k made e =
    let same : fault ≡ own = e ∙ ap (λ (i : Bool). (i || b) || own) h.0 ∙ ap (λ (i : Bool). i || own) k.0 in
    on_its_line line fault reading (op v w) (subst (λ (i : Bool). IsOutcome i reading (op v w)) (sym same) (made v w h.1 k.1))
two_is a b own fault left right reading (Ok v) (Err i) line op h k made e = e ∙ left_true (a || b) own (right_true a b k)
two_is a b own fault left right reading (Err i) y line op h k made e = e ∙ left_true (a || b) own (left_true a b h)

-- the same of three, of which the last is computed first
pub three_is : (a b c own fault : Bool) (first second third reading : Reading) (x y z : Result Value Halted) (line : ℕ) (op : Value → Value → Value → Result Value Halt)
    → IsOutcome a first x → IsOutcome b second y → IsOutcome c third z
    → ((v k w : Value) → first ≡ sure v → second ≡ sure k → third ≡ sure w → IsOutcome own reading (op v k w))
    → fault ≡ (((a || b) || c) || own) → IsOutcome fault reading (z >>= λ w. x >>= λ v. y >>= λ k. on_line line (op v k w))
three_is a b c own fault first second third reading (Ok v) (Ok k) (Ok w) line op h i j made e =
    let same : fault ≡ own = e ∙ ap (λ (t : Bool). ((t || b) || c) || own) h.0 ∙ ap (λ (t : Bool). (t || c) || own) i.0 ∙ ap (λ (t : Bool). t || own) j.0 in
    on_its_line line fault reading (op v k w) (subst (λ (t : Bool). IsOutcome t reading (op v k w)) (sym same) (made v k w h.1 i.1 j.1))
three_is a b c own fault first second third reading x y (Err w) line op h i j made e = e ∙ left_true ((a || b) || c) own (right_true (a || b) c j)
three_is a b c own fault first second third reading (Err v) y (Ok w) line op h i j made e = e ∙ left_true ((a || b) || c) own (left_true (a || b) c (left_true a b h))
three_is a b c own fault first second third reading (Ok v) (Err k) (Ok w) line op h i j made e = e ∙ left_true ((a || b) || c) own (left_true (a || b) c (right_true a b i))

-- an operation on what an operation gives
in_turn : (fault : Bool) (reading : Reading) (line : ℕ) (v k : Value) (r z : Result Value Halted) (op : Value → Value → Result Value Halt) (put : Value → Value → Value → Result Value Halt)
    → IsOutcome fault reading ((r >>= λ o. z >>= λ w. on_line line (op o w)) >>= λ new. on_line line (put v k new))
    → IsOutcome fault reading (r >>= λ o. z >>= λ w. on_line line (op o w) >>= λ new. on_line line (put v k new))
in_turn fault reading line v k (Err i) z op put h = h
in_turn fault reading line v k (Ok o) (Err i) op put h = h
in_turn fault reading line v k (Ok o) (Ok w) op put h = h

-- `x[i] op= e`: the list and the index are looked at first
pub put_order : (fault : Bool) (reading : Reading) (line : ℕ) (x y z : Result Value Halted) (old op : Value → Value → Result Value Halt) (put : Value → Value → Value → Result Value Halt)
    → IsOutcome fault reading (((x >>= λ v. y >>= λ k. on_line line (old v k)) >>= λ o. z >>= λ w. on_line line (op o w)) >>= λ new. x >>= λ v. y >>= λ k. on_line line (put v k new))
    → IsOutcome fault reading (x >>= λ v. y >>= λ k. on_line line (old v k) >>= λ o. z >>= λ w. on_line line (op o w) >>= λ new. on_line line (put v k new))
put_order fault reading line (Err i) y z old op put h = h
put_order fault reading line (Ok v) (Err i) z old op put h = h
put_order fault reading line (Ok v) (Ok k) z old op put h = in_turn fault reading line v k (on_line line (old v k)) z op put h
