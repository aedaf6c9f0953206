-- The environment of the tests' expressions, and their types in it.
use Rattle.std.proofs.Common.{◌≡◌, ◌∙◌, ◌<◌, ℕ, zero, suc, List, [], ◌∷◌, Some, Option, ap, arith}
use Rattle.std.proofs.Common.{length, map, refl, subst, sym}
use Rattle.std.specs.Prelude.{slice_get}
use Rattle.std.proofs.lemmas.List.{length-map}
use Rattle.mpy_tree.specs.declared.limits.Limits.{Limits}
use Rattle.mpy_tree.specs.declared.typing.Ty.{Ty}
use Rattle.mpy_tree.specs.declared.typing.Ty.TheVariants as ty
use Rattle.mpy_tree.specs.declared.typing.Slot.TheVariants as slot
use Rattle.choice_tree.specs.Typing.{Scope}
use Rattle.bit_words.specs.Logic.{OwnsAll}
use Rattle.sym_values.specs.declared.value.SymValue.{SymValue}
use Rattle.sym_values.specs.declared.value.SymValue.TheVariants as sym_value
use Rattle.sym_values.specs.Forms.{IntForm, form_for, form_of, forms_of, joined, values_bits}
use Rattle.sym_nodes.specs.declared.env.Env.{Env}
use Rattle.sym_nodes.specs.Environments.{HasPicks, IsEnvIn, scope_of, slot_type, type_at}
use Rattle.sym_nodes.specs.Operands.{ty_of}
use Rattle.sym_nodes.specs.Plain.{type_of}
use Rattle.sym_nodes.proofs.Typed.{type_is}
use Rattle.variable_tests.specs.Expressions.{choice, quotient, sum, x}

form_is : {B : Type 0} (l : Limits) (values : List (SymValue B)) (i : ℕ) (v : SymValue B)
    → forms_of values ≡ form_for l ty.Int ∷ [] → slice_get values i ≡ Some v
    → form_of v ≡ form_for l (ty_of v)
form_is l [] i v e at = absurd cc
form_is l (a ∷ []) zero v e at =
    let same : a ≡ v = cc in
    let form : form_of a ≡ form_for l ty.Int = cc in
    subst (λ y. form_of y ≡ form_for l (ty_of y)) same
    (form ∙ ap (form_for l) (sym (type_is l ty.Int a form)))
form_is l (a ∷ []) (suc i) v e at = absurd cc
form_is l (a ∷ b ∷ rest) i v e at = absurd cc

number_is : {B : Type 0} (n : ℕ) (v : SymValue B) → form_of v ≡ IntForm n → ty_of v ≡ ty.Int
number_is n (sym_value.Int word) e = refl
number_is n (sym_value.Bool bit) e = absurd cc
number_is n (sym_value.List len items) e = absurd cc
number_is n (sym_value.Text len items) e = absurd cc

pub one_number : {B : Type 0} (n : ℕ) (values : List (SymValue B))
    → forms_of values ≡ IntForm n ∷ [] → map ty_of values ≡ ty.Int ∷ []
one_number n [] e = absurd cc
one_number n (v ∷ []) e =
    let form : form_of v ≡ IntForm n = cc in
    let type = number_is n v form in λ i. type i ∷ []
one_number n (v ∷ w ∷ rest) e = absurd cc

-- x alone, a number
pub one_named : {S B : Type 0} {owns : S → B → Type 0} {s : S} (env : Env B)
    → env.names ≡ x ∷ [] → length env.set ≡ 1 → forms_of env.values ≡ form_for env.limits ty.Int ∷ []
    → OwnsAll owns s (values_bits env.values) → OwnsAll owns s env.set
    → OwnsAll owns s (joined env.picks) → IsEnvIn owns s env
one_named env names set forms values marks picks = record {
  valued =
      let each = sym (length-map env.values form_of) ∙ ap length forms ∙ sym (ap length names) in
      omega (arith, each);
  marked = let each = set ∙ sym (ap length names) in omega (arith, each);
  forms = λ i v below at. form_is env.limits env.values i v forms at;
  values = values;
  marks = marks;
  picks = picks;
}

-- a scope in which all names have this type
abbrev every : Option Ty → Scope
every o = record { slots = λ i s. o; program = []; number = 0 }

module _ (σ : Scope) (is : σ.slots σ.number (slot.Local x) ≡ Some ty.Int) where
  pub sum_typed : type_of σ sum ≡ Some ty.Int
  sum_typed = ap (λ o. type_of (every o) sum) is

  pub quotient_typed : type_of σ quotient ≡ Some ty.Int
  quotient_typed = ap (λ o. type_of (every o) quotient) is

  pub choice_typed : type_of σ choice ≡ Some ty.Int
  choice_typed = ap (λ o. type_of (every o) choice) is

one_type : {B : Type 0} (values : List (SymValue B)) → map ty_of values ≡ ty.Int ∷ []
    → type_at values (Some 0) ≡ Some ty.Int
one_type [] e = absurd cc
one_type (v ∷ vs) e = let one : ty_of v ≡ ty.Int = cc in ap (λ t. Some t) one

pub x_typed : {B : Type 0} (env : Env B) → env.names ≡ x ∷ [] → map ty_of env.values ≡ ty.Int ∷ []
    → (scope_of env).slots 0 (slot.Local x) ≡ Some ty.Int
x_typed env names types =
    ap (λ ns. slot_type ns env.values (slot.Local x)) names ∙ one_type env.values types

-- their picks
pub sum_picks : {B : Type 0} (ps : List (List B)) → HasPicks ps sum
sum_picks ps = (tt, (tt, tt))

pub quotient_picks : {B : Type 0} (ps : List (List B)) → HasPicks ps quotient
quotient_picks ps = (tt, (tt, tt))

pub choice_picks : {B : Type 0} (ps : List (List B)) → 0 < length ps → HasPicks ps choice
choice_picks ps some = (some, sum_picks ps, (quotient_picks ps, tt))
