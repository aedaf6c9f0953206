-- The parts of a slice: what is sliced, and the ends that are there.
use Rattle.std.proofs.Common.{◌≡◌, ◌+◌, ◌-◌, ◌<◌, ℕ, zero, suc, Bool, true, false, List, [], ◌∷◌, All, length, get_or, slice_get, refl, sym, ap, ◌∙◌, subst, arith, Option, Some, None, option_map}
use Rattle.std.specs.Prelude.{IfSome, if◌then◌else◌}
use denote.Ref.{Bor}
use Rattle.std.proofs.lemmas.List.Elements.{All-head, All-tail}
use Rattle.mpy_tree.specs.declared.limits.Limits.{Limits}
use Rattle.mpy_tree.specs.declared.typing.Ty.{Ty}
use Rattle.mpy_tree.specs.declared.typing.Ty.TheVariants as ty
use Rattle.mpy_tree.specs.declared.value.Value.{Value}
use Rattle.mpy_tree.specs.Expressions.{slice_of}
use Rattle.mpy_tree.specs.Rules.{all_numbers, slice_type}
use Rattle.choice_tree.specs.Heads.{one_if}
use Rattle.choice_tree.specs.Typing.{sliced as type_of_slice}
use Rattle.sym_values.specs.declared.value.SymValue.{SymValue}
use Rattle.sym_values.specs.declared.value.SymOutcome.{SymOutcome}
use Rattle.sym_values.specs.Reading.{OutcomeReads, read, sure}
use Rattle.sym_nodes.specs.Nodes.{end_value, sliced}
use Rattle.sym_nodes.specs.Operands.{ArePartsIn, EndReads, IsTypedIn, ValuesRead, ty_of, types_of, values_of}
use Rattle.sym_nodes.proofs.Arguments.{both_hold, int_type}
use Rattle.sym_nodes.proofs.Arity.{one_value_read, three_values_read, two_values_read}
use Rattle.sym_nodes.proofs.Typed.{values_typed}

-- the types of what is sliced and of the ends
after_numbers : (b : Bool) (s t : Ty) → (if b then slice_type s else None) ≡ Some t → (b ≡ true) × (slice_type s ≡ Some t)
after_numbers true s t e = (refl, e)
after_numbers false s t e = absurd cc

pub slice_types : {B : Type 0} (p : SymOutcome B) (parts : List (SymOutcome B)) (t : Ty) → type_of_slice (types_of (p ∷ parts)) ≡ Some t → (all_numbers (types_of parts) ≡ true) × (slice_type (ty_of p.value) ≡ Some t)
slice_types p parts t e = after_numbers (all_numbers (types_of parts)) (ty_of p.value) t e

number_there : {B : Type 0} (parts : List (SymOutcome B)) (k : ℕ) (x : SymValue B) → all_numbers (types_of parts) ≡ true → slice_get (values_of parts) k ≡ Some x → ty_of x ≡ ty.Int
number_there [] k x h e = absurd cc
number_there (p ∷ parts) zero x h e =
    let same : x ≡ p.value = cc in ap ty_of same ∙ int_type (ty_of p.value) (both_hold _ _ h).0
number_there (p ∷ parts) (suc k) x h e = number_there parts k x (both_hold _ _ h).1 e

-- the type of what is sliced, which stands first
pub sliced_type : {B : Type 0} (parts : List (SymOutcome B)) (o : SymOutcome B) (t : Ty) → type_of_slice (types_of parts) ≡ Some t → o ≡ get_or parts 0 o → slice_type (ty_of o.value) ≡ Some t
sliced_type [] o t e is = absurd cc
sliced_type (p ∷ parts) o t e is = ap (λ (q : SymOutcome _). slice_type (ty_of q.value)) is ∙ (slice_types p parts t e).1

-- an end is a number
end_number : {B : Type 0} (parts : List (SymOutcome B)) (there : Bool) (place : ℕ) (t : Ty) (x : SymValue B) → type_of_slice (types_of parts) ≡ Some t → (there ≡ true → 0 < place) → end_value (values_of parts) there place ≡ Some x → ty_of x ≡ ty.Int
end_number parts false place t x e h is = absurd cc
end_number [] true place t x e h is = absurd cc
end_number (p ∷ parts) true zero t x e h is = absurd (let k = h refl in omega arith)
end_number (p ∷ parts) true (suc k) t x e h is = number_there parts k x (slice_types p parts t e).0 is

pub ends_number : {B : Type 0} (parts : List (SymOutcome B)) (there : Bool) (place : ℕ) (t : Ty) (end : Option (Bor (SymValue B))) → type_of_slice (types_of parts) ≡ Some t → (there ≡ true → 0 < place)
    → option_map (λ x. x.now) end ≡ end_value (values_of parts) there place → IfSome end (λ x. ty_of x.now ≡ ty.Int)
ends_number parts there place t None e h is = tt
ends_number parts there place t (Some b) e h is = end_number parts there place t b.now e h (sym is)

-- and has its form
module _ {S B : Type 0} {owns : S → B → Type 0} {s : S} where
  value_there : (l : Limits) (xs : List (SymValue B)) (k : ℕ) (x : SymValue B) → All (IsTypedIn owns s l) xs → slice_get xs k ≡ Some x → IsTypedIn owns s l x
  value_there l [] k x h e = absurd cc
  value_there l (y ∷ xs) zero x h e =
      let same : y ≡ x = cc in subst (IsTypedIn owns s l) same (All-head (IsTypedIn owns s l) y xs h)
  value_there l (y ∷ xs) (suc k) x h e = value_there l xs k x (All-tail (IsTypedIn owns s l) y xs h) e

  end_in : (l : Limits) (parts : List (SymOutcome B)) (there : Bool) (place : ℕ) (x : SymValue B) → ArePartsIn owns s l parts → end_value (values_of parts) there place ≡ Some x → IsTypedIn owns s l x
  end_in l parts false place x h e = absurd cc
  end_in l parts true place x h e = value_there l (values_of parts) place x (values_typed l parts h) e

  pub ends_in : (l : Limits) (parts : List (SymOutcome B)) (there : Bool) (place : ℕ) (end : Option (Bor (SymValue B))) → ArePartsIn owns s l parts
      → option_map (λ x. x.now) end ≡ end_value (values_of parts) there place → IfSome end (λ x. IsTypedIn owns s l x.now)
  ends_in l parts there place None h e = tt
  ends_in l parts there place (Some b) h e = end_in l parts there place b.now h (sym e)

-- what is read of the parts is what is sliced
module _ {B : Type 0} (rd rd' : B → Bool) (r : SymOutcome B) where
  no_end : (end : Option (Bor (SymValue B))) → option_map (λ x. x.now) end ≡ None → EndReads rd end None
  no_end None e = tt
  no_end (Some b) e = absurd cc

  an_end : (end : Option (Bor (SymValue B))) (x : SymValue B) (w : Value) → option_map (λ x. x.now) end ≡ Some x → read rd x ≡ sure w → EndReads rd end (Some w)
  an_end None x w e h = absurd cc
  an_end (Some b) x w e h = let same : b.now ≡ x = cc in ap (read rd) same ∙ h

  pub slice_read : (from to : Bool) (parts : List (SymOutcome B)) (o : SymOutcome B) (low high : Option (Bor (SymValue B))) → length parts ≡ 1 + one_if from + one_if to → o ≡ get_or parts 0 o
      → option_map (λ x. x.now) low ≡ end_value (values_of parts) from 1 → option_map (λ x. x.now) high ≡ end_value (values_of parts) to (length parts - 1)
      → ((v : Value) (x y : Option Value) → read rd o.value ≡ sure v → EndReads rd low x → EndReads rd high y → OutcomeReads rd' r (slice_of v x y))
      → (ws : List Value) → ValuesRead rd parts ws → OutcomeReads rd' r (sliced from to ws)
  slice_read false false [] o low high many is p q h ws e = absurd (omega arith)
  slice_read false false (a ∷ []) o low high many is p q h ws e =
      let k = one_value_read rd (a ∷ []) a.value ws refl e in
      subst (λ (us : List Value). OutcomeReads rd' r (sliced false false us)) (sym k.1)
      (h k.0 None None (ap (λ (i : SymOutcome B). read rd i.value) is ∙ k.2) (no_end low p) (no_end high q))
  slice_read false false (a ∷ b ∷ parts) o low high many is p q h ws e = absurd (omega arith)
  slice_read true false [] o low high many is p q h ws e = absurd (omega arith)
  slice_read true false (a ∷ []) o low high many is p q h ws e = absurd (omega arith)
  slice_read true false (a ∷ b ∷ []) o low high many is p q h ws e =
      let k = two_values_read rd (a ∷ b ∷ []) a.value b.value ws refl e in
      subst (λ (us : List Value). OutcomeReads rd' r (sliced true false us)) (sym k.2)
      (h k.0 (Some k.1) None (ap (λ (i : SymOutcome B). read rd i.value) is ∙ k.3) (an_end low b.value k.1 p k.4) (no_end high q))
  slice_read true false (a ∷ b ∷ d ∷ parts) o low high many is p q h ws e = absurd (omega arith)
  slice_read false true [] o low high many is p q h ws e = absurd (omega arith)
  slice_read false true (a ∷ []) o low high many is p q h ws e = absurd (omega arith)
  slice_read false true (a ∷ b ∷ []) o low high many is p q h ws e =
      let k = two_values_read rd (a ∷ b ∷ []) a.value b.value ws refl e in
      subst (λ (us : List Value). OutcomeReads rd' r (sliced false true us)) (sym k.2)
      (h k.0 None (Some k.1) (ap (λ (i : SymOutcome B). read rd i.value) is ∙ k.3) (no_end low p) (an_end high b.value k.1 q k.4))
  slice_read false true (a ∷ b ∷ d ∷ parts) o low high many is p q h ws e = absurd (omega arith)
  slice_read true true [] o low high many is p q h ws e = absurd (omega arith)
  slice_read true true (a ∷ []) o low high many is p q h ws e = absurd (omega arith)
  slice_read true true (a ∷ b ∷ []) o low high many is p q h ws e = absurd (omega arith)
  slice_read true true (a ∷ b ∷ d ∷ []) o low high many is p q h ws e =
      let k = three_values_read rd (a ∷ b ∷ d ∷ []) a.value b.value d.value ws refl e in
      subst (λ (us : List Value). OutcomeReads rd' r (sliced true true us)) (sym k.3)
      (h k.0 (Some k.1) (Some k.2) (ap (λ (i : SymOutcome B). read rd i.value) is ∙ k.4) (an_end low b.value k.1 p k.5) (an_end high d.value k.2 q k.6))
  slice_read true true (a ∷ b ∷ d ∷ f ∷ parts) o low high many is p q h ws e = absurd (omega arith)
