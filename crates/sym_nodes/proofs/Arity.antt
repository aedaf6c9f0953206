-- Operations on the values of one part and of two.
use Rattle.std.proofs.Common.{◌≡◌, Bool, List, [], ◌∷◌, map, refl, sym, ap, ◌∙◌, Option, Some}
use Rattle.mpy_tree.specs.declared.limits.Limits.{Limits}
use Rattle.mpy_tree.specs.declared.builtins.Builtin.TheVariants.{Abs, Min, Max}
use Rattle.mpy_tree.specs.Expressions.{builtin}
use Rattle.mpy_tree.specs.Operations.{absolute, greatest, least}
use Rattle.std.specs.declared.result.Result.{Result}
use Rattle.mpy_tree.specs.declared.typing.Ty.{Ty}
use Rattle.mpy_tree.specs.declared.value.Value.{Value}
use Rattle.mpy_tree.specs.declared.outcome.Halt.{Halt}
use Rattle.choice_tree.specs.Typing.{of_one, of_two}
use Rattle.sym_values.specs.declared.value.SymValue.{SymValue}
use Rattle.sym_values.specs.declared.value.SymOutcome.{SymOutcome}
use Rattle.sym_values.specs.Reading.{IsOutcome, Reading, read, sure}
use Rattle.sym_nodes.specs.Nodes.{on_one, on_two}
use Rattle.sym_nodes.specs.Operands.{ValuesRead, ty_of, types_of, values_of}

module _ {B : Type 0} (rd : B → Bool) (parts : List (SymOutcome B)) (fault : Bool) (reading : Reading) where
  -- an operation on the values of one part and of two
  pub one_gives : (x : SymValue B) (op : Value → Result Value Halt) → values_of parts ≡ x ∷ [] → ((v : Value) → read rd x ≡ sure v → IsOutcome fault reading (op v))
      → (ws : List Value) → ValuesRead rd parts ws → IsOutcome fault reading (on_one op ws)
  one_gives x op same h [] e = let f : read rd x ∷ [] ≡ [] = sym (ap (map (read rd)) same) ∙ e in absurd cc
  one_gives x op same h (v ∷ []) e =
      let f : read rd x ∷ [] ≡ sure v ∷ [] = sym (ap (map (read rd)) same) ∙ e in
      let g : read rd x ≡ sure v = cc in h v g
  one_gives x op same h (v ∷ w ∷ ws) e = let f : read rd x ∷ [] ≡ sure v ∷ sure w ∷ map sure ws = sym (ap (map (read rd)) same) ∙ e in absurd cc

  pub two_give : (x y : SymValue B) (op : Value → Value → Result Value Halt) → values_of parts ≡ x ∷ y ∷ []
      → ((v w : Value) → read rd x ≡ sure v → read rd y ≡ sure w → IsOutcome fault reading (op v w))
      → (ws : List Value) → ValuesRead rd parts ws → IsOutcome fault reading (on_two op ws)
  two_give x y op same h [] e = let f : read rd x ∷ read rd y ∷ [] ≡ [] = sym (ap (map (read rd)) same) ∙ e in absurd cc
  two_give x y op same h (v ∷ []) e = let f : read rd x ∷ read rd y ∷ [] ≡ sure v ∷ [] = sym (ap (map (read rd)) same) ∙ e in absurd cc
  two_give x y op same h (v ∷ w ∷ []) e =
      let f : read rd x ∷ read rd y ∷ [] ≡ sure v ∷ sure w ∷ [] = sym (ap (map (read rd)) same) ∙ e in
      let g : read rd x ≡ sure v = cc in
      let k : read rd y ≡ sure w = cc in h v w g k
  two_give x y op same h (v ∷ w ∷ u ∷ ws) e = let f : read rd x ∷ read rd y ∷ [] ≡ sure v ∷ sure w ∷ sure u ∷ map sure ws = sym (ap (map (read rd)) same) ∙ e in absurd cc

-- the types of one part and of two
pub one_type : {B : Type 0} (f : Ty → Option Ty) (parts : List (SymOutcome B)) (x : SymValue B) → values_of parts ≡ x ∷ [] → of_one f (types_of parts) ≡ f (ty_of x)
one_type f parts x is = ap (λ (xs : List (SymValue _)). of_one f (map (λ x. Some (ty_of x)) xs)) is

pub two_types : {B : Type 0} (f : Ty → Ty → Option Ty) (parts : List (SymOutcome B)) (x y : SymValue B) → values_of parts ≡ x ∷ y ∷ [] → of_two f (types_of parts) ≡ f (ty_of x) (ty_of y)
two_types f parts x y is = ap (λ (xs : List (SymValue _)). of_two f (map (λ x. Some (ty_of x)) xs)) is

-- what the values of one part, of two and of three read as
module _ {B : Type 0} (rd : B → Bool) (parts : List (SymOutcome B)) where
  pub one_value_read : (x : SymValue B) (ws : List Value) → values_of parts ≡ x ∷ [] → ValuesRead rd parts ws → (v : Value) × (ws ≡ v ∷ []) × (read rd x ≡ sure v)
  one_value_read x [] same e = let f : read rd x ∷ [] ≡ [] = sym (ap (map (read rd)) same) ∙ e in absurd cc
  one_value_read x (v ∷ []) same e =
      let f : read rd x ∷ [] ≡ sure v ∷ [] = sym (ap (map (read rd)) same) ∙ e in
      let first : read rd x ≡ sure v = cc in (v, refl, first)
  one_value_read x (v ∷ w ∷ ws) same e = let f : read rd x ∷ [] ≡ sure v ∷ sure w ∷ map sure ws = sym (ap (map (read rd)) same) ∙ e in absurd cc

  pub two_values_read : (x y : SymValue B) (ws : List Value) → values_of parts ≡ x ∷ y ∷ [] → ValuesRead rd parts ws → (v w : Value) × (ws ≡ v ∷ w ∷ []) × (read rd x ≡ sure v) × (read rd y ≡ sure w)
  two_values_read x y [] same e = let f : read rd x ∷ read rd y ∷ [] ≡ [] = sym (ap (map (read rd)) same) ∙ e in absurd cc
  two_values_read x y (v ∷ []) same e = let f : read rd x ∷ read rd y ∷ [] ≡ sure v ∷ [] = sym (ap (map (read rd)) same) ∙ e in absurd cc
  two_values_read x y (v ∷ w ∷ []) same e =
      let f : read rd x ∷ read rd y ∷ [] ≡ sure v ∷ sure w ∷ [] = sym (ap (map (read rd)) same) ∙ e in
      let first : read rd x ≡ sure v = cc in
      let second : read rd y ≡ sure w = cc in (v, w, refl, first, second)
  two_values_read x y (v ∷ w ∷ u ∷ ws) same e = let f : read rd x ∷ read rd y ∷ [] ≡ sure v ∷ sure w ∷ sure u ∷ map sure ws = sym (ap (map (read rd)) same) ∙ e in absurd cc

  pub three_values_read : (x y z : SymValue B) (ws : List Value) → values_of parts ≡ x ∷ y ∷ z ∷ [] → ValuesRead rd parts ws
      → (v w u : Value) × (ws ≡ v ∷ w ∷ u ∷ []) × (read rd x ≡ sure v) × (read rd y ≡ sure w) × (read rd z ≡ sure u)
  three_values_read x y z [] same e = let f : read rd x ∷ read rd y ∷ read rd z ∷ [] ≡ [] = sym (ap (map (read rd)) same) ∙ e in absurd cc
  three_values_read x y z (v ∷ []) same e = let f : read rd x ∷ read rd y ∷ read rd z ∷ [] ≡ sure v ∷ [] = sym (ap (map (read rd)) same) ∙ e in absurd cc
  three_values_read x y z (v ∷ w ∷ []) same e = let f : read rd x ∷ read rd y ∷ read rd z ∷ [] ≡ sure v ∷ sure w ∷ [] = sym (ap (map (read rd)) same) ∙ e in absurd cc
  three_values_read x y z (v ∷ w ∷ u ∷ []) same e =
      let f : read rd x ∷ read rd y ∷ read rd z ∷ [] ≡ sure v ∷ sure w ∷ sure u ∷ [] = sym (ap (map (read rd)) same) ∙ e in
      let first : read rd x ≡ sure v = cc in
      let second : read rd y ≡ sure w = cc in
      let third : read rd z ≡ sure u = cc in (v, w, u, refl, first, second, third)
  three_values_read x y z (v ∷ w ∷ u ∷ t ∷ ws) same e = let f : read rd x ∷ read rd y ∷ read rd z ∷ [] ≡ sure v ∷ sure w ∷ sure u ∷ sure t ∷ map sure ws = sym (ap (map (read rd)) same) ∙ e in absurd cc

-- builtins of one value and of two
pub absolute_is : (l : Limits) (ws : List Value) → on_one (absolute l) ws ≡ builtin l Abs ws
absolute_is l [] = refl
absolute_is l (v ∷ []) = refl
absolute_is l (v ∷ w ∷ ws) = refl

pub least_is : (l : Limits) (ws : List Value) → on_two least ws ≡ builtin l Min ws
least_is l [] = refl
least_is l (v ∷ []) = refl
least_is l (v ∷ w ∷ []) = refl
least_is l (v ∷ w ∷ u ∷ ws) = refl

pub greatest_is : (l : Limits) (ws : List Value) → on_two greatest ws ≡ builtin l Max ws
greatest_is l [] = refl
greatest_is l (v ∷ []) = refl
greatest_is l (v ∷ w ∷ []) = refl
greatest_is l (v ∷ w ∷ u ∷ ws) = refl
