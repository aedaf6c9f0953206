-- Lists of values that are for slots, the builtins on them, and the ends of slices.
use Rattle.std.proofs.Common.{◌≡◌, suc, Bool, true, false, ◌&&◌, ◌≤◌, List, [], ◌∷◌, length, Option, Some, None, if◌then◌else◌, ℤ, pos, refl, sym, ap, ◌∙◌, subst, arith}
use Rattle.std.specs.Prelude.{⊤, MatchOption, ◌==◌, nat_le}
use Rattle.std.specs.List.{list_all}
use Rattle.std.specs.declared.result.Result.{Result}
use Rattle.std.specs.declared.result.Result.TheVariants.{Ok}
use Rattle.std.proofs.lemmas.Bool.{eqb-true, leb-true}
use Rattle.mpy_tree.specs.declared.limits.Limits.{Limits}
use Rattle.mpy_tree.specs.declared.value.Value.{Value}
use Rattle.mpy_tree.specs.declared.value.Value.TheVariants as value
use Rattle.mpy_tree.specs.declared.outcome.Halt.{Halt}
use Rattle.mpy_tree.specs.declared.typing.Ty.{Ty}
use Rattle.mpy_tree.specs.declared.typing.Ty.TheVariants as ty
use Rattle.mpy_tree.specs.declared.builtins.Builtin.{Builtin}
use Rattle.mpy_tree.specs.declared.builtins.Builtin.TheVariants.{Len, Abs, Min, Max, Range}
use Rattle.mpy_tree.specs.Builtins.{takes}
use Rattle.mpy_tree.specs.Values.{◌>>=◌}
use Rattle.mpy_tree.specs.Operations.{fits, list_within, length_of, slice}
use Rattle.mpy_tree.specs.Expressions.{wholes, list_of, end_of, slice_of, range_of_numbers, builtin}
use Rattle.mpy_tree.specs.SetTypes.{builtin_gives}
use Rattle.mpy_tree.specs.Rules.{is_type, is_sequence, slice_type, all_numbers, all_sequences, are_operands, builtin_type}
use Rattle.mpy_tree.specs.Fitting.{type_of}
use Rattle.typed_programs.specs.Keeping.{IsOf, is_for, are_for, IsFor, AreFor}
use Rattle.typed_programs.proofs.FittingLists.{and_true, and_both}
use Rattle.typed_programs.proofs.Operators.{Fits, Yields, same_is, has_type, number_yields, list_yields, absolute_yields, least_yields, greatest_yields, range_yields, slice_yields, zero_fits}

-- a type under a condition
pub if_given : (b : Bool) (u t : Ty) → (if b then Some u else None) ≡ Some t → (b ≡ true) × (u ≡ t)
if_given true u t e = (refl, cc)
if_given false u t e = absurd (cc)

pub is_type_some : (t : Ty) (o : Option Ty) → is_type t o ≡ true → o ≡ Some t
is_type_some t None e = absurd (cc)
is_type_some t (Some u) e = ap Some (sym (same_is t u e))

module _ (l : Limits) where
  pub for_type : (o : Option Ty) (v : Value) (t : Ty) → o ≡ Some t → IsFor l o v → IsOf l t v
  for_type o v t e h = let P : Option Ty → Type 0 = λ q. IsFor l q v in subst P e h

  -- numbers that fit
  abbrev pub Numbers : List Value → Type 0
  Numbers [] = ⊤
  Numbers (v ∷ vs) = IsOf l ty.Int v × Numbers vs

  pub numbers_of : (os : List (Option Ty)) (vs : List Value) → AreFor l os vs → all_numbers os ≡ true → Numbers vs × (length vs ≡ length os)
  numbers_of [] [] h e = (tt, refl)
  numbers_of [] (v ∷ vs) h e = absurd (cc)
  numbers_of (o ∷ os) [] h e = absurd (cc)
  numbers_of (o ∷ os) (v ∷ vs) h e =
      let k = and_true (is_type ty.Int o) (all_numbers os) e in
      let m = and_true (is_for l o v) (are_for l os vs) h in
      let rest = numbers_of os vs m.1 k.1 in
      ((for_type o v ty.Int (is_type_some ty.Int o k.0) m.0, rest.0), ap suc rest.1)

  pub whole_numbers : (vs : List Value) → Numbers vs → (zs : List ℤ) × (wholes vs ≡ Ok zs) × (length zs ≡ length vs) × (list_all (fits l) zs ≡ true)
  whole_numbers [] h = ([], refl, refl, refl)
  whole_numbers (value.Int z ∷ vs) h =
      let r = whole_numbers vs h.1 in
      (z ∷ r.0, ap (λ m. m >>= λ ws. Ok (z ∷ ws)) r.1, ap suc r.2, and_both (fits l z) (list_all (fits l) r.0) h.0 r.3)
  whole_numbers (value.Bool b ∷ vs) h = absurd (cc)
  whole_numbers (value.List b ∷ vs) h = absurd (cc)
  whole_numbers (value.Text b ∷ vs) h = absurd (cc)

  pub list_of_yields : (vs : List Value) → Numbers vs → Yields l ty.List (list_of l vs)
  list_of_yields vs h =
      let r = whole_numbers vs h in
      let P : Result (List ℤ) Halt → Type 0 = λ m. Yields l ty.List (m >>= list_within l) in
      subst P (sym r.1) (list_yields l r.0 r.3)

  length_yields : (v : Value) → is_sequence (Some (type_of v)) ≡ true → Yields l ty.Int (length_of l v)
  length_yields (value.List zs) e = number_yields l (pos (length zs))
  length_yields (value.Text cs) e = number_yields l (pos (length cs))
  length_yields (value.Int z) e = absurd (cc)
  length_yields (value.Bool b) e = absurd (cc)

  length_for : (o : Option Ty) (v : Value) → IsFor l o v → is_sequence o ≡ true → Yields l ty.Int (length_of l v)
  length_for None v h e = absurd (cc)
  length_for (Some t) v h e = length_yields v (ap (λ u. is_sequence (Some u)) (has_type l t v h) ∙ e)

  len_yields : (os : List (Option Ty)) (vs : List Value) → AreFor l os vs → (length os == 1) ≡ true → all_sequences os ≡ true → Yields l ty.Int (builtin l Len vs)
  len_yields [] vs h e k = absurd (cc)
  len_yields (o ∷ []) [] h e k = absurd (cc)
  len_yields (o ∷ []) (v ∷ []) h e k = length_for o v (and_true (is_for l o v) true h).0 (and_true (is_sequence o) true k).0
  len_yields (o ∷ []) (v ∷ w ∷ vs) h e k = let m : false ≡ true = (and_true (is_for l o v) false h).1 in absurd (cc)
  len_yields (o ∷ q ∷ os) vs h e k = let n : length (o ∷ q ∷ os) ≡ 1 = eqb-true (length (o ∷ q ∷ os)) 1 e in absurd (omega arith)

  abs_yields : (vs : List Value) → Numbers vs → length vs ≡ 1 → Yields l ty.Int (builtin l Abs vs)
  abs_yields [] h e = absurd (omega arith)
  abs_yields (v ∷ []) h e = absolute_yields l v h.0
  abs_yields (v ∷ w ∷ vs) h e = absurd (omega arith)

  two_yield : (b : Builtin) (f : Value → Value → Result Value Halt) → ((v w : Value) → IsOf l ty.Int v → IsOf l ty.Int w → Yields l ty.Int (f v w)) → ((v w : Value) → builtin l b (v ∷ w ∷ []) ≡ f v w) → (vs : List Value) → Numbers vs → length vs ≡ 2 → Yields l ty.Int (builtin l b vs)
  two_yield b f g k [] h e = absurd (omega arith)
  two_yield b f g k (v ∷ []) h e = absurd (omega arith)
  two_yield b f g k (v ∷ w ∷ []) h e =
      let P : Result Value Halt → Type 0 = λ r. Yields l ty.Int r in
      subst P (sym (k v w)) (g v w h.0 h.1.0)
  two_yield b f g k (v ∷ w ∷ x ∷ vs) h e = absurd (omega arith)

  ranged : (zs : List ℤ) → list_all (fits l) zs ≡ true → 1 ≤ length zs → length zs ≤ 3 → Yields l ty.List (range_of_numbers l zs)
  ranged [] f h k = absurd (omega arith)
  ranged (b ∷ []) f h k = range_yields l (pos 0) b (pos 1) (zero_fits l) (and_true (fits l b) true f).0
  ranged (a ∷ b ∷ []) f h k =
      let g = and_true (fits l a) (fits l b && true) f in
      range_yields l a b (pos 1) g.0 (and_true (fits l b) true g.1).0
  ranged (a ∷ b ∷ c ∷ []) f h k =
      let g = and_true (fits l a) (fits l b && (fits l c && true)) f in
      range_yields l a b c g.0 (and_true (fits l b) (fits l c && true) g.1).0
  ranged (a ∷ b ∷ c ∷ d ∷ zs) f h k = absurd (omega arith)

  range_of_yields : (vs : List Value) → Numbers vs → (nat_le 1 (length vs) && nat_le (length vs) 3) ≡ true → Yields l ty.List (builtin l Range vs)
  range_of_yields vs h e =
      let k = and_true (nat_le 1 (length vs)) (nat_le (length vs) 3) e in
      let low : 1 ≤ length vs = leb-true 1 (length vs) k.0 in
      let high : length vs ≤ 3 = leb-true (length vs) 3 k.1 in
      let r = whole_numbers vs h in
      let n : length r.0 ≡ length vs = r.2 in
      let P : Result (List ℤ) Halt → Type 0 = λ m. Yields l ty.List (m >>= range_of_numbers l) in
      subst P (sym r.1) (ranged r.0 r.3 (omega arith) (omega arith))

  number_builtin : (b : Builtin) (vs : List Value) → Numbers vs → takes b (length vs) ≡ true → (b ≡ Len → ⊥) → Yields l (builtin_gives b) (builtin l b vs)
  number_builtin Len vs h e k = absurd (k refl)
  number_builtin Abs vs h e k = abs_yields vs h (eqb-true (length vs) 1 e)
  number_builtin Min vs h e k = two_yield Min _ (least_yields l) (λ v w. refl) vs h (eqb-true (length vs) 2 e)
  number_builtin Max vs h e k = two_yield Max _ (greatest_yields l) (λ v w. refl) vs h (eqb-true (length vs) 2 e)
  number_builtin Range vs h e k = range_of_yields vs h e

  on_operands : (b : Builtin) (os : List (Option Ty)) (vs : List Value) → AreFor l os vs → takes b (length os) ≡ true → are_operands b os ≡ true → Yields l (builtin_gives b) (builtin l b vs)
  on_operands Len os vs h e k = len_yields os vs h e k
  on_operands Abs os vs h e k = let n = numbers_of os vs h k in number_builtin Abs vs n.0 (ap (takes Abs) n.1 ∙ e) (λ q. cc)
  on_operands Min os vs h e k = let n = numbers_of os vs h k in number_builtin Min vs n.0 (ap (takes Min) n.1 ∙ e) (λ q. cc)
  on_operands Max os vs h e k = let n = numbers_of os vs h k in number_builtin Max vs n.0 (ap (takes Max) n.1 ∙ e) (λ q. cc)
  on_operands Range os vs h e k = let n = numbers_of os vs h k in number_builtin Range vs n.0 (ap (takes Range) n.1 ∙ e) (λ q. cc)

  pub builtin_yields : (b : Builtin) (os : List (Option Ty)) (vs : List Value) (t : Ty) → AreFor l os vs → builtin_type b os ≡ Some t → Yields l t (builtin l b vs)
  builtin_yields b os vs t h e =
      let k = if_given (takes b (length os) && are_operands b os) (builtin_gives b) t e in
      let m = and_true (takes b (length os)) (are_operands b os) k.0 in
      let P : Ty → Type 0 = λ u. Yields l u (builtin l b vs) in
      subst P k.1 (on_operands b os vs h m.0 m.1)

  -- an end of a slice
  abbrev pub IsEnd : Option Value → Type 0
  IsEnd o = MatchOption o ⊤ (IsOf l ty.Int)

  end_whole : (o : Option Value) → IsEnd o → (z : Option ℤ) × (end_of o ≡ Ok z)
  end_whole None h = (None, refl)
  end_whole (Some (value.Int z)) h = (Some z, refl)
  end_whole (Some (value.Bool z)) h = absurd (cc)
  end_whole (Some (value.List z)) h = absurd (cc)
  end_whole (Some (value.Text z)) h = absurd (cc)

  pub slice_of_yields : (v : Value) (t : Ty) (x y : Option Value) → Fits l v → IsEnd x → IsEnd y → slice_type (type_of v) ≡ Some t → Yields l t (slice_of v x y)
  slice_of_yields v t x y f h k e =
      let a : (z : Option ℤ) × (end_of x ≡ Ok z) = end_whole x h in
      let b : (z : Option ℤ) × (end_of y ≡ Ok z) = end_whole y k in
      let P : Result (Option ℤ) Halt → Type 0 = λ m. Yields l t (m >>= λ i. end_of y >>= λ j. slice v i j) in
      let Q : Result (Option ℤ) Halt → Type 0 = λ m. Yields l t (m >>= λ j. slice v a.0 j) in
      subst P (sym a.1) (subst Q (sym b.1) (slice_yields l v t a.0 b.0 f e))
