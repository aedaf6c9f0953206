-- What the rule of a statement says of the types of its parts.
use Rattle.std.proofs.Common.{◌≡◌, ◌∙◌, ℕ, true, List, refl, sym, ap, Option, Some, None, IsSome, is_some, ◌&&◌}
use Rattle.std.proofs.lemmas.Bool.{and_parts}
use Rattle.mpy_tree.specs.declared.limits.Limits.{Limits}
use Rattle.mpy_tree.specs.declared.operators.ArithOp.{ArithOp}
use Rattle.mpy_tree.specs.declared.operators.ArithOp.TheVariants.{Add, Sub, Mul, Floor, Rem, Power}
use Rattle.mpy_tree.specs.declared.typing.Ty.{Ty}
use Rattle.mpy_tree.specs.declared.typing.Ty.TheVariants as ty
use Rattle.mpy_tree.specs.Options.{◌>>=◌}
use Rattle.mpy_tree.specs.Rules as rules
use Rattle.mpy_tree.specs.Rules.{arith_type, augment_obeys, index_type, is_type, member_of}
use Rattle.choice_tree.specs.Typing.{Scope, same_type}
use Rattle.choice_tree.specs.WeightedTrees.{Weighted}
use Rattle.sym_values.specs.declared.value.SymValue.{SymValue}
use Rattle.sym_values.specs.Forms.{form_for, form_of}
use Rattle.sym_nodes.specs.Operands.{ty_of}
use Rattle.sym_nodes.specs.Plain.{type_of}
use Rattle.sym_nodes.proofs.Typed.{type_is}
use Rattle.typed_trees.specs.TypedStatements.{local_type, result_type}
use Rattle.sym_blocks.specs.Typing.{Appends, Assigns, Augments, GoesOver, Puts, Returns}

pub some_of : (o : Option Ty) → IsSome o → (t : Ty) × (o ≡ Some t)
some_of None h = absurd cc
some_of (Some t) h = (t, refl)

pub is_some_of : (o : Option Ty) (t : Ty) → o ≡ Some t → IsSome o
is_some_of o t e = ap is_some e

same_is : (a b : Ty) → rules.same_type a b ≡ true → a ≡ b
same_is ty.Int ty.Int h = refl
same_is ty.Int ty.Bool h = absurd cc
same_is ty.Int ty.List h = absurd cc
same_is ty.Int ty.Text h = absurd cc
same_is ty.Bool ty.Int h = absurd cc
same_is ty.Bool ty.Bool h = refl
same_is ty.Bool ty.List h = absurd cc
same_is ty.Bool ty.Text h = absurd cc
same_is ty.List ty.Int h = absurd cc
same_is ty.List ty.Bool h = absurd cc
same_is ty.List ty.List h = refl
same_is ty.List ty.Text h = absurd cc
same_is ty.Text ty.Int h = absurd cc
same_is ty.Text ty.Bool h = absurd cc
same_is ty.Text ty.List h = absurd cc
same_is ty.Text ty.Text h = refl

-- two types that are there and are the same
pub both_of : (o q : Option Ty) → same_type o q ≡ true → (t : Ty) × (o ≡ Some t) × (q ≡ Some t)
both_of None q h = absurd cc
both_of (Some a) None h = absurd cc
both_of (Some a) (Some b) h = (a, refl, ap Some (sym (same_is a b h)))

type_of_is : (t : Ty) (o : Option Ty) → is_type t o ≡ true → o ≡ Some t
type_of_is t None h = absurd cc
type_of_is t (Some u) h = ap Some (sym (same_is t u h))

pub assigned : (σ : Scope) (x : List ℕ) (w : Weighted) → Assigns σ x w → (t : Ty) × (type_of σ w ≡ Some t) × (local_type σ x ≡ Some t)
assigned σ x w h = both_of (type_of σ w) (local_type σ x) h

pub returned : (σ : Scope) (w : Weighted) → Returns σ w → (t : Ty) × (type_of σ w ≡ Some t) × (result_type σ ≡ Some t)
returned σ w h = both_of (type_of σ w) (result_type σ) h

augmented_by : (op : ArithOp) (o q : Option Ty) → augment_obeys op o q ≡ true → (t u : Ty) × (o ≡ Some t) × (q ≡ Some u) × (arith_type op t u ≡ Some t)
augmented_by op None q h = absurd cc
augmented_by op (Some t) None h = absurd cc
augmented_by op (Some t) (Some u) h = (t, u, refl, refl, type_of_is t (arith_type op t u) h)

pub augmented : (σ : Scope) (x : List ℕ) (op : ArithOp) (w : Weighted) → Augments σ x op w → (t u : Ty) × (local_type σ x ≡ Some t) × (type_of σ w ≡ Some u) × (arith_type op t u ≡ Some t)
augmented σ x op w h = augmented_by op (local_type σ x) (type_of σ w) h

pub appended : (σ : Scope) (x : List ℕ) (w : Weighted) → Appends σ x w → (local_type σ x ≡ Some ty.List) × (type_of σ w ≡ Some ty.Int)
appended σ x w h =
    let both = and_parts (is_type ty.List (local_type σ x)) (is_type ty.Int (type_of σ w)) h in
    (type_of_is ty.List (local_type σ x) both.0, type_of_is ty.Int (type_of σ w) both.1)

pub put : (σ : Scope) (x : List ℕ) (i w : Weighted) → Puts σ x i w → (local_type σ x ≡ Some ty.List) × (type_of σ i ≡ Some ty.Int) × (type_of σ w ≡ Some ty.Int)
put σ x i w h =
    let first = is_type ty.List (local_type σ x) in
    let second = is_type ty.Int (type_of σ i) in
    let third = is_type ty.Int (type_of σ w) in
    let all = and_parts (first && second) third h in
    let front = and_parts first second all.0 in
    (type_of_is ty.List (local_type σ x) front.0, type_of_is ty.Int (type_of σ i) front.1, type_of_is ty.Int (type_of σ w) all.1)

-- numbers give a number
pub numbers_give : (op : ArithOp) → arith_type op ty.Int ty.Int ≡ Some ty.Int
numbers_give Add = refl
numbers_give Sub = refl
numbers_give Mul = refl
numbers_give Floor = refl
numbers_give Rem = refl
numbers_give Power = refl

over_by : (o q : Option Ty) → same_type (q >>= member_of) o ≡ true → (t u : Ty) × (q ≡ Some u) × (member_of u ≡ Some t) × (o ≡ Some t)
over_by o None h = absurd cc
over_by o (Some u) h = let both = both_of (member_of u) o h in (both.0, u, refl, both.1, both.2)

pub gone_over : (σ : Scope) (x : List ℕ) (w : Weighted) → GoesOver σ x w → (t u : Ty) × (type_of σ w ≡ Some u) × (member_of u ≡ Some t) × (local_type σ x ≡ Some t)
gone_over σ x w h = over_by (local_type σ x) (type_of σ w) h

-- the type at an index of a list
pub item_typed : {B : Type 0} (l : Limits) (a i : SymValue B) → form_of a ≡ form_for l ty.List → form_of i ≡ form_for l ty.Int → index_type (ty_of a) (ty_of i) ≡ Some ty.Int
item_typed l a i p q = λ j. index_type (type_is l ty.List a p j) (type_is l ty.Int i q j)

pub arith_typed : {B : Type 0} (l : Limits) (op : ArithOp) (t u v : Ty) (a b : SymValue B) → form_of a ≡ form_for l t → form_of b ≡ form_for l u → arith_type op t u ≡ Some v → arith_type op (ty_of a) (ty_of b) ≡ Some v
arith_typed l op t u v a b p q e = (λ j. arith_type op (type_is l t a p j) (type_is l u b q j)) ∙ e

pub same_some : (t u : Ty) → Some t ≡ Some u → t ≡ u
same_some t u e = cc
