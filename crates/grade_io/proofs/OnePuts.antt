-- The puts of a text end in one way.
use Rattle.std.proofs.Common.{◌≡◌, ◌≢◌, ℕ, ◌-◌, ◌<◌, length, take, Some, Ok, Err, ap, refl, sym, ◌∙◌, arith, inl, inr}
use Rattle.std.proofs.lemmas.Bool.{cases_lt}
use Rattle.grade_io.specs.Devices.{added}
use Rattle.grade_io.specs.Plans.{Plan}
use Rattle.grade_io.specs.Puts.{AllTake, StopsAfter, WriteEnd, left_after, made, plan_after}
use Rattle.grade_io.specs.PutLaws.{PutsAreOne}
use Rattle.grade_io.specs.declared.devices.PutError.TheVariants.{Failed, NoMemory}

module _ (share : ℕ → ℕ) (p : Plan) (bytes : ℕ) where
  -- where the puts stop, no put takes bytes
  stops_there : (n m : ℕ) (e : WriteEnd) → e ≢ Err NoMemory → StopsAfter share p bytes n e → AllTake share p bytes m → n < m → ⊥
  stops_there n m (Ok x) had stops all less = let some = (all n less).0 in omega (arith, some, stops)
  stops_there n m (Err Failed) had stops all less = (all n less).1 stops.1
  stops_there n m (Err NoMemory) had stops all less = had refl

  same_number : (n m : ℕ) (d e : WriteEnd) → d ≢ Err NoMemory → e ≢ Err NoMemory → StopsAfter share p bytes n d → StopsAfter share p bytes m e
      → AllTake share p bytes n → AllTake share p bytes m → n ≡ m
  same_number n m d e had none x y all each = elim (cases_lt n m) [
    | inl less ↦ absurd (stops_there n m d had x each less)
    | inr more ↦ elim (cases_lt m n) [
      | inl less ↦ absurd (stops_there m n e none y all less)
      | inr other ↦ omega arith
    ]
  ]

  same_end : (n m : ℕ) (d e : WriteEnd) → d ≢ Err NoMemory → e ≢ Err NoMemory → n ≡ m → StopsAfter share p bytes n d → StopsAfter share p bytes m e → d ≡ e
  same_end n m (Ok x) (Ok y) had none same a b = refl
  same_end n m (Ok x) (Err Failed) had none same a b =
      let left = ap (left_after share bytes) same in let some = b.0 in absurd (omega (arith, left, a, some))
  same_end n m (Ok x) (Err NoMemory) had none same a b = absurd (none refl)
  same_end n m (Err Failed) (Ok y) had none same a b =
      let left = ap (left_after share bytes) same in let some = a.0 in absurd (omega (arith, left, b, some))
  same_end n m (Err Failed) (Err Failed) had none same a b = refl
  same_end n m (Err Failed) (Err NoMemory) had none same a b = absurd (none refl)
  same_end n m (Err NoMemory) e had none same a b = absurd (had refl)

pub puts_are_one : PutsAreOne
puts_are_one share p text before one other d e had none x y =
    let bytes = length text in
    let same = same_number share p bytes x.number y.number d e had none x.stops y.stops x.all_take y.all_take in
    let end = same_end share p bytes x.number y.number d e had none same x.stops y.stops in
    record {
      end = end;
      plan = x.plan ∙ (λ i. Some (plan_after p (made (same i) (end i)))) ∙ sym y.plan;
      written = x.written ∙ (λ i. added before.written (take (bytes - left_after share bytes (same i)) text)) ∙ sym y.written;
    }
