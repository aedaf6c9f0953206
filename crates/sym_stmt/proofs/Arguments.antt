-- The arguments of a call, and the slots of the parameters that they are for.
use Rattle.std.proofs.Common.{◌≡◌, ℕ, ◌+◌, Bool, true, false, ◌||◌, cond, List, [], ◌∷◌}
use Rattle.std.proofs.Common.{◌++◌, length, map, get_or}
use Rattle.std.proofs.Common.{Option, Some, None, refl, sym, ap, ◌∙◌, slice_get, option_map}
use Rattle.std.specs.Prelude.{All}
use Rattle.std.specs.List.{list_any, position_from}
use Rattle.std.proofs.lemmas.Bool.{and_parts}
use Rattle.std.proofs.lemmas.Iterator.Adapters.{position_from-zero}
use Rattle.std.proofs.lemmas.List.{length-map, map-append}
use Rattle.std.proofs.lemmas.List.Elements.{All-head, All-tail}
use Rattle.std.proofs.lemmas.List.Quantifiers.{position-Some}
use Rattle.std.proofs.lemmas.Option.{slice_get-get_or, slice_get-map}
use Rattle.std.proofs.lemmas.Slice.Eq.{bytes_eq-Decides}
use Rattle.mpy_tree.specs.declared.limits.Limits.{Limits}
use Rattle.mpy_tree.specs.declared.typing.Slot.TheVariants as slot
use Rattle.mpy_tree.specs.declared.typing.Ty.{Ty}
use Rattle.mpy_tree.specs.declared.typing.Ty.TheVariants as ty
use Rattle.mpy_tree.specs.declared.value.Value.{Value}
use Rattle.mpy_tree.specs.Rules.{Slots as SlotTypes, are_arguments, is_argument, same_type}
use Rattle.mpy_tree.specs.Values.{same_bytes}
use Rattle.sym_values.specs.declared.value.SymValue.{SymValue}
use Rattle.sym_values.specs.Forms.{form_for, forms_of}
use Rattle.sym_values.specs.Reading.{read, sure}
use Rattle.sym_nodes.specs.Operands.{IsTypedIn, ty_of}
use Rattle.sym_paths.specs.declared.slots.Slots.{Slots}
use Rattle.sym_paths.specs.Paths.{ReadAs}
use Rattle.mpy_tree.specs.Locals.{place_of}
use Rattle.sym_paths.specs.Places.{Begins}
use Rattle.sym_paths.specs.Slots.{local_forms, type_among, type_at}
use Rattle.sym_stmt.specs.FactSlots.{AreSlotsOf}

same_types : (t u : Ty) → same_type t u ≡ true → t ≡ u
same_types ty.Int ty.Int e = refl
same_types ty.Bool ty.Bool e = refl
same_types ty.List ty.List e = refl
same_types ty.Text ty.Text e = refl
same_types _ _ e = absurd cc

argument_is : (o : Option Ty) (u : Ty) → is_argument o (Some u) ≡ true → o ≡ Some u
argument_is None u e = absurd cc
argument_is (Some t) u e = ap (λ s. Some s) (same_types t u e)

-- the parameters have the types of the arguments
module _ {B : Type 0} (S : SlotTypes) (j : ℕ) where
  pub arguments_are : (params : List (List ℕ)) (args : List (SymValue B))
      → are_arguments S j params (map (λ x. Some (ty_of x)) args) ≡ true
      → map (λ x. S j (slot.Local x)) params ≡ map (λ x. Some (ty_of x)) args
  arguments_are [] [] e = refl
  arguments_are [] (a ∷ args) e = absurd cc
  arguments_are (x ∷ params) [] e = absurd cc
  arguments_are (x ∷ params) (a ∷ args) e =
      let both = and_parts (is_argument (S j (slot.Local x)) (Some (ty_of a)))
      (are_arguments S j params (map (λ x. Some (ty_of x)) args)) e in
      let head = argument_is (S j (slot.Local x)) (ty_of a) both.0 in
      let tail = arguments_are params args both.1 in
      λ i. head i ∷ tail i

pub same_many : {X Y Z : Type 0} (f : X → Z) (g : Y → Z) (xs : List X) (ys : List Y)
    → map f xs ≡ map g ys → length xs ≡ length ys
same_many f g xs ys e = sym (length-map xs f) ∙ ap length e ∙ length-map ys g

-- types that begin with those of the arguments
types_begin : {B : Type 0} (args : List (SymValue B)) (types : List Ty) (os : List (Option Ty))
    → map (λ t. Some t) types ≡ map (λ x. Some (ty_of x)) args ++ os
    → Begins (map (λ x. ty_of x) args) types
types_begin [] types os e = (types, refl)
types_begin (a ∷ args) [] os e = absurd cc
types_begin (a ∷ args) (t ∷ types) os e =
    let head : t ≡ ty_of a = cc in
    let tail : map (λ t. Some t) types ≡ map (λ x. Some (ty_of x)) args ++ os = cc in
    let rest = types_begin args types os tail in
    (rest.0, λ i. head i ∷ rest.1 i)

module _ {S B : Type 0} {owns : S → B → Type 0} {s : S} (l : Limits) where
  arguments_formed : (args : List (SymValue B)) → All (IsTypedIn owns s l) args
      → forms_of args ≡ map (form_for l) (map (λ x. ty_of x) args)
  arguments_formed [] h = refl
  arguments_formed (a ∷ args) h =
      let head = (All-head (IsTypedIn owns s l) a args h).form in
      let tail = arguments_formed args (All-tail (IsTypedIn owns s l) a args h) in
      λ i. head i ∷ tail i

  -- the forms of the slots begin with those of the arguments
  pub arguments_begin : (types : SlotTypes) (j : ℕ) (params : List (List ℕ)) (n : ℕ)
      (slots : Slots) (args : List (SymValue B)) → AreSlotsOf types j params l n slots
      → All (IsTypedIn owns s l) args
      → map (λ x. types j (slot.Local x)) params ≡ map (λ x. Some (ty_of x)) args
      → Begins (forms_of args) (local_forms slots)
  arguments_begin types j params n slots args h each same =
      let type = λ (x : List ℕ). types j (slot.Local x) in
      let others = h.begins.0 in
      let all = h.typed ∙ ap (map type) h.begins.1 ∙ map-append type params others
      ∙ ap (λ os. os ++ map type others) same in
      let rest = types_begin args slots.types (map type others) all in
      let form = form_for slots.limits in (
        map form rest.0,
        ap (map form) rest.1 ∙ map-append form (map (λ x. ty_of x) args) rest.0
            ∙ ap (λ fs. fs ++ map form rest.0)
            (ap (λ (k : Limits). map (form_for k) (map (λ x. ty_of x) args)) h.limits
            ∙ sym (arguments_formed args each)),
      )

-- values read as others, one by one
pub read_each : {B : Type 0} (rd : B → Bool) (args : List (SymValue B)) (values : List Value)
    → map (read rd) args ≡ map sure values → ReadAs rd args values
read_each rd [] [] e = tt
read_each rd [] (v ∷ values) e = absurd cc
read_each rd (a ∷ args) [] e = absurd cc
read_each rd (a ∷ args) (v ∷ values) e =
    let head : read rd a ≡ sure v = cc in
    let tail : map (read rd) args ≡ map sure values = cc in
    (head, read_each rd args values tail)

-- a test that finds no place passes nowhere
none_by : (b : Bool) (n : ℕ) (o : Option ℕ) (r : Bool) → (o ≡ None → r ≡ false)
    → cond b (Some n) o ≡ None → (b || r) ≡ false
none_by true n o r f e = absurd cc
none_by false n o r f e = f e

none_passes : {X : Type 0} (test : X → Bool) (n : ℕ) (xs : List X)
    → position_from test n xs ≡ None → list_any test xs ≡ false
none_passes test n [] e = refl
none_passes test n (x ∷ xs) e =
    none_by (test x) n (position_from test (n + 1) xs) (list_any test xs)
    (none_passes test (n + 1) xs) e

shown_once : (o v : Option Ty) → option_map (λ t. Some t) o ≡ Some v → o ≡ v
shown_once None v e = absurd cc
shown_once (Some t) v e = cc

-- the slots have the types of their names
module _ (types : SlotTypes) (j : ℕ) (params : List (List ℕ)) (l : Limits) (n : ℕ)
    (slots : Slots) (h : AreSlotsOf types j params l n slots) where
  pub slots_many : length slots.types ≡ length slots.names
  slots_many =
      same_many (λ t. Some t) (λ (x : List ℕ). types j (slot.Local x)) slots.types slots.names
      h.typed

  placed_type : (x : List ℕ) (o : Option ℕ) → place_of slots.names x ≡ o
      → type_at slots.types o ≡ types j (slot.Local x)
  placed_type x None e =
      let test = λ (y : List ℕ). same_bytes x y in
      let none = none_passes test 0 slots.names (sym (position_from-zero test slots.names) ∙ e) in
      sym (h.others x none)
  placed_type x (Some k) e =
      let type = λ (y : List ℕ). types j (slot.Local y) in
      let first = position-Some (λ (y : List ℕ). same_bytes x y) slots.names k [] e in
      let name = slice_get-get_or slots.names k [] first.0 in
      let at = sym (slice_get-map (λ t. Some t) slots.types k)
      ∙ ap (λ (os : List (Option Ty)). slice_get os k) h.typed
      ∙ slice_get-map type slots.names k ∙ ap (option_map type) name in
      let same = (bytes_eq-Decides x (get_or slots.names k [])).0 first.1 in
      shown_once (slice_get slots.types k) (type (get_or slots.names k [])) at
      ∙ ap type (sym same)

  pub slot_type_is : (x : List ℕ)
      → type_among slots.names slots.types x ≡ types j (slot.Local x)
  slot_type_is x = placed_type x (place_of slots.names x) refl

-- the types of arguments, each of which is there
pub types_there : {B : Type 0} (args : List (SymValue B))
    → map (λ t. Some t) (map (λ x. ty_of x) args) ≡ map (λ x. Some (ty_of x)) args
types_there [] = refl
types_there (a ∷ args) = ap (λ os. Some (ty_of a) ∷ os) (types_there args)
