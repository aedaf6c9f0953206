-- Values and parts of nodes, by their types.
use Rattle.std.proofs.Common.{◌≡◌, ◌≢◌, List, [], ◌∷◌, All, length, refl, sym, ap, ◌∙◌, subst}
use Rattle.std.proofs.lemmas.List.Elements.{All-cons, All-head, All-nil, All-tail}
use Rattle.mpy_tree.specs.declared.limits.Limits.{Limits}
use Rattle.mpy_tree.specs.declared.typing.Ty.{Ty}
use Rattle.mpy_tree.specs.declared.typing.Ty.TheVariants as ty
use Rattle.sym_values.specs.declared.value.SymValue.{SymValue}
use Rattle.sym_values.specs.declared.value.SymValue.TheVariants as sym_value
use Rattle.sym_values.specs.declared.value.SymOutcome.{SymOutcome}
use Rattle.sym_values.specs.Forms.{IntForm, form_for, form_of}
use Rattle.sym_values.specs.Results.{IsOutcomeIn}
use Rattle.sym_nodes.specs.Operands.{ArePartsIn, IsPartIn, IsTypedIn, ty_of, values_of}

-- a form says the type
pub type_is : {B : Type 0} (l : Limits) (t : Ty) (x : SymValue B) → form_of x ≡ form_for l t → ty_of x ≡ t
type_is l ty.Int (sym_value.Int w) e = refl
type_is l ty.Bool (sym_value.Int w) e = absurd cc
type_is l ty.List (sym_value.Int w) e = absurd cc
type_is l ty.Text (sym_value.Int w) e = absurd cc
type_is l ty.Int (sym_value.Bool b) e = absurd cc
type_is l ty.Bool (sym_value.Bool b) e = refl
type_is l ty.List (sym_value.Bool b) e = absurd cc
type_is l ty.Text (sym_value.Bool b) e = absurd cc
type_is l ty.Int (sym_value.List m xs) e = absurd cc
type_is l ty.Bool (sym_value.List m xs) e = absurd cc
type_is l ty.List (sym_value.List m xs) e = refl
type_is l ty.Text (sym_value.List m xs) e = absurd cc
type_is l ty.Int (sym_value.Text m xs) e = absurd cc
type_is l ty.Bool (sym_value.Text m xs) e = absurd cc
type_is l ty.List (sym_value.Text m xs) e = absurd cc
type_is l ty.Text (sym_value.Text m xs) e = refl

-- a value of a type is one of its own type
pub typed_as : {S B : Type 0} {owns : S → B → Type 0} {s : S} (l : Limits) (t : Ty) (o : SymOutcome B) → IsOutcomeIn owns s (form_for l t) o → IsPartIn owns s l o
typed_as l t o h = record { owned = h.owned; owned_fault = h.owned_fault; form = h.form ∙ ap (form_for l) (sym (type_is l t o.value h.form)) }

pub width_is : {B : Type 0} (l : Limits) (w : List B) (x : SymValue B) → x ≡ sym_value.Int w → form_of x ≡ form_for l (ty_of x) → length w ≡ l.width
width_is l w x e f =
    let g : IntForm (length w) ≡ IntForm l.width = subst (λ (y : SymValue _). form_of y ≡ form_for l (ty_of y)) e f in cc

module _ {S B : Type 0} {owns : S → B → Type 0} {s : S} where
  pub values_typed : (l : Limits) (parts : List (SymOutcome B)) → ArePartsIn owns s l parts → All (IsTypedIn owns s l) (values_of parts)
  values_typed l [] h = All-nil (IsTypedIn owns s l)
  values_typed l (o ∷ parts) h =
      let first = All-head (IsPartIn owns s l) o parts h.each in
      let rest = All-tail (IsPartIn owns s l) o parts h.each in
      All-cons (IsTypedIn owns s l) o.value (values_of parts) (record { owned = first.owned; form = first.form }) (values_typed l parts (record { each = rest }))

  pub one_typed : (l : Limits) (parts : List (SymOutcome B)) (x : SymValue B) → ArePartsIn owns s l parts → values_of parts ≡ x ∷ [] → IsTypedIn owns s l x
  one_typed l parts x h e =
      All-head (IsTypedIn owns s l) x [] (subst (All (IsTypedIn owns s l)) e (values_typed l parts h))

  pub two_typed : (l : Limits) (parts : List (SymOutcome B)) (x y : SymValue B) → ArePartsIn owns s l parts → values_of parts ≡ x ∷ y ∷ [] → IsTypedIn owns s l x × IsTypedIn owns s l y
  two_typed l parts x y h e =
      let both = subst (All (IsTypedIn owns s l)) e (values_typed l parts h) in
      (All-head (IsTypedIn owns s l) x (y ∷ []) both, All-head (IsTypedIn owns s l) y [] (All-tail (IsTypedIn owns s l) x (y ∷ []) both))

  pub three_typed : (l : Limits) (parts : List (SymOutcome B)) (x y z : SymValue B) → ArePartsIn owns s l parts → values_of parts ≡ x ∷ y ∷ z ∷ []
      → IsTypedIn owns s l x × IsTypedIn owns s l y × IsTypedIn owns s l z
  three_typed l parts x y z h e =
      let all = subst (All (IsTypedIn owns s l)) e (values_typed l parts h) in
      let rest = All-tail (IsTypedIn owns s l) x (y ∷ z ∷ []) all in
      (All-head (IsTypedIn owns s l) x (y ∷ z ∷ []) all, All-head (IsTypedIn owns s l) y (z ∷ []) rest, All-head (IsTypedIn owns s l) z [] (All-tail (IsTypedIn owns s l) y (z ∷ []) rest))

pub not_number : {B : Type 0} (x : SymValue B) → ((w : List B) → x ≡ sym_value.Int w → ⊥) → ty_of x ≢ ty.Int
not_number (sym_value.Int w) h e = h w refl
not_number (sym_value.Bool b) h e = cc
not_number (sym_value.List m xs) h e = cc
not_number (sym_value.Text m xs) h e = cc
