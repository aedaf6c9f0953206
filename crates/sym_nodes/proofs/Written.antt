-- Numbers that are written, and the ends of ranges.
use Rattle.std.proofs.Common.{◌≡◌, ◌<◌, ◌≤◌, ◌-◌, ◌^◌, ℕ, Bool, true, false, List, [], ◌∷◌, map, min, sym, subst, arith, inl, inr}
use Rattle.std.specs.Prelude.{ℤ, pos, nat_lt}
use Rattle.std.proofs.Math.Pow.{pow_mono}
use Rattle.std.proofs.lemmas.Bool.{cases_lt}
use Rattle.std.proofs.lemmas.Bool.Decides.{nat_tests}
use Rattle.mpy_tree.specs.declared.builtins.Builtin.TheVariants.{Range}
use Rattle.mpy_tree.specs.declared.limits.Limits.{Limits}
use Rattle.mpy_tree.specs.declared.value.Value.{Value}
use Rattle.mpy_tree.specs.declared.value.Value.TheVariants as val
use Rattle.mpy_tree.specs.Expressions.{builtin}
use Rattle.mpy_tree.specs.Operations.{number, range}
use Rattle.bit_words.specs.Words.{fits, int_of}
use Rattle.sym_values.specs.declared.value.SymValue.{SymValue}
use Rattle.sym_values.specs.declared.value.SymValue.TheVariants as sym_value
use Rattle.sym_values.specs.declared.value.SymOutcome.{SymOutcome}
use Rattle.sym_values.specs.Reading.{OutcomeReads}
use Rattle.sym_nodes.specs.Operands.{ValuesRead, values_of}
use Rattle.sym_nodes.proofs.Arity.{one_value_read, three_values_read, two_values_read}
use Rattle.sym_nodes.proofs.Giving.{number_is_read}

-- small numbers fit each width
pub small_fits : (l : Limits) (n : ℕ) → n < 4 → fits l.width (pos n) ≡ true
small_fits l n h =
    let range = l.width_range in
    let most : 2 ^ 2 ≤ 2 ^ (l.width - 1) = pow_mono {i = 2} {j = l.width - 1} (omega arith) in
    let below : n < 2 ^ (l.width - 1) = omega arith in
    grind (arith, nat_tests)

-- great ones fit none
too_great : (l : Limits) (n : ℕ) → 65536 ≤ n → nat_lt n (2 ^ (l.width - 1)) ≡ false
too_great l n h =
    let range = l.width_range in
    let most : 2 ^ (l.width - 1) ≤ 2 ^ 15 = pow_mono {i = l.width - 1} {j = 15} (omega arith) in
    let above : 2 ^ (l.width - 1) ≤ n = omega arith in
    grind (arith, nat_tests)

-- a written number gives what the least of it and of a number gives that no width has
pub written_gives : {B : Type 0} (rd : B → Bool) (o : SymOutcome B) (l : Limits) (n m : ℕ) → m ≡ min n 65536 → OutcomeReads rd o (number l (pos m)) → OutcomeReads rd o (number l (pos n))
written_gives rd o l n m e h = elim (cases_lt n 65536) [
  | inl below ↦ let same : m ≡ n = omega arith in subst (λ (k : ℕ). OutcomeReads rd o (number l (pos k))) same h
  | inr above ↦
      let high : 65536 ≤ m = omega arith in
      let one = too_great l m high in
      let two = too_great l n above in
      let failed = rw one at h in
      rw two failed
]

-- the ranges of one number, of two and of three
module _ {B : Type 0} (rd rd' : B → Bool) (parts : List (SymOutcome B)) (o : SymOutcome B) (l : Limits) where
  pub range_of_one : (x : SymValue B) (w : List B) (a c : ℤ) → values_of parts ≡ x ∷ [] → x ≡ sym_value.Int w → a ≡ pos 0 → c ≡ pos 1 → OutcomeReads rd' o (range l a (int_of (map rd w)) c)
      → (ws : List Value) → ValuesRead rd parts ws → OutcomeReads rd' o (builtin l Range ws)
  range_of_one x w a c same is ea ec h ws e =
      let r = one_value_read rd parts x ws same e in
      let v = number_is_read rd x w r.0 is r.2 in
      let k = subst (λ (i : ℤ). OutcomeReads rd' o (range l (pos 0) (int_of (map rd w)) i)) ec (subst (λ (i : ℤ). OutcomeReads rd' o (range l i (int_of (map rd w)) c)) ea h) in
      subst (λ (us : List Value). OutcomeReads rd' o (builtin l Range us)) (sym r.1) (subst (λ (u : Value). OutcomeReads rd' o (builtin l Range (u ∷ []))) v k)

  pub range_of_two : (x y : SymValue B) (v w : List B) (c : ℤ) → values_of parts ≡ x ∷ y ∷ [] → x ≡ sym_value.Int v → y ≡ sym_value.Int w → c ≡ pos 1 → OutcomeReads rd' o (range l (int_of (map rd v)) (int_of (map rd w)) c)
      → (ws : List Value) → ValuesRead rd parts ws → OutcomeReads rd' o (builtin l Range ws)
  range_of_two x y v w c same is also ec h ws e =
      let r = two_values_read rd parts x y ws same e in
      let p = number_is_read rd x v r.0 is r.3 in
      let q = number_is_read rd y w r.1 also r.4 in
      let k = subst (λ (i : ℤ). OutcomeReads rd' o (range l (int_of (map rd v)) (int_of (map rd w)) i)) ec h in
      subst (λ (us : List Value). OutcomeReads rd' o (builtin l Range us)) (sym r.2)
      (subst (λ (i : Value). OutcomeReads rd' o (builtin l Range (i ∷ r.1 ∷ []))) p (subst (λ (i : Value). OutcomeReads rd' o (builtin l Range (val.Int (int_of (map rd v)) ∷ i ∷ []))) q k))

  pub range_of_three : (x y z : SymValue B) (v w u : List B) → values_of parts ≡ x ∷ y ∷ z ∷ [] → x ≡ sym_value.Int v → y ≡ sym_value.Int w → z ≡ sym_value.Int u
      → OutcomeReads rd' o (range l (int_of (map rd v)) (int_of (map rd w)) (int_of (map rd u))) → (ws : List Value) → ValuesRead rd parts ws → OutcomeReads rd' o (builtin l Range ws)
  range_of_three x y z v w u same is also third h ws e =
      let r = three_values_read rd parts x y z ws same e in
      let p = number_is_read rd x v r.0 is r.4 in
      let q = number_is_read rd y w r.1 also r.5 in
      let t = number_is_read rd z u r.2 third r.6 in
      subst (λ (us : List Value). OutcomeReads rd' o (builtin l Range us)) (sym r.3)
      (subst (λ (i : Value). OutcomeReads rd' o (builtin l Range (i ∷ r.1 ∷ r.2 ∷ []))) p
      (subst (λ (i : Value). OutcomeReads rd' o (builtin l Range (val.Int (int_of (map rd v)) ∷ i ∷ r.2 ∷ []))) q
      (subst (λ (i : Value). OutcomeReads rd' o (builtin l Range (val.Int (int_of (map rd v)) ∷ val.Int (int_of (map rd w)) ∷ i ∷ []))) t h)))
