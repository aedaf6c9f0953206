-- Arguments for the parameters of bounds, by their forms and their bits.
use Rattle.std.proofs.Common.{◌≡◌, ◌∙◌, List, [], ◌∷◌, All, ap, map, refl, sym}
use Rattle.std.proofs.lemmas.List.Elements.{All-cons, All-nil}
use Rattle.mpy_tree.specs.declared.limits.Limits.{Limits}
use Rattle.mpy_tree.specs.declared.typing.Ty.{Ty}
use Rattle.bounds_reader.specs.declared.bounds.Bounds.{Bounds}
use Rattle.bit_words.specs.Logic.{OwnsAll}
use Rattle.bit_words.specs.Later.{owns_first, owns_second}
use Rattle.sym_values.specs.declared.value.SymValue.{SymValue}
use Rattle.sym_values.specs.Forms.{bits_of, form_for, form_of, forms_of, values_bits}
use Rattle.sym_nodes.specs.Operands.{IsTypedIn, ty_of}
use Rattle.sym_nodes.proofs.Typed.{type_is}
use Rattle.input_space.specs.Inputs.{param_type}
use Rattle.task_bits.specs.Tasks.{AreArgumentsOf}

all_typed : {S B : Type 0} {owns : S → B → Type 0} {s : S} (l : Limits) (ts : List Ty)
    (args : List (SymValue B)) → OwnsAll owns s (values_bits args)
    → forms_of args ≡ map (form_for l) ts → All (IsTypedIn owns s l) args
all_typed {S} {B} {owns} {s} l ts [] h e = All-nil (IsTypedIn owns s l)
all_typed l [] (a ∷ args) h e = absurd cc
all_typed {S} {B} {owns} {s} l (t ∷ ts) (a ∷ args) h e =
    let head : form_of a ≡ form_for l t = cc in
    let tail : forms_of args ≡ map (form_for l) ts = cc in
    All-cons (IsTypedIn owns s l) a args
    (record {
      owned = owns_first (bits_of a) (values_bits args) h;
      form = head ∙ ap (form_for l) (sym (type_is l t a head));
    })
    (all_typed l ts args (owns_second (bits_of a) (values_bits args) h) tail)

pub types_are : {B : Type 0} (l : Limits) (ts : List Ty) (args : List (SymValue B))
    → forms_of args ≡ map (form_for l) ts → map ty_of args ≡ ts
types_are l [] [] e = refl
types_are l (t ∷ ts) [] e = absurd cc
types_are l [] (a ∷ args) e = absurd cc
types_are l (t ∷ ts) (a ∷ args) e =
    let head : form_of a ≡ form_for l t = cc in
    let tail : forms_of args ≡ map (form_for l) ts = cc in
    let one = type_is l t a head in
    let rest = types_are l ts args tail in
    λ i. one i ∷ rest i

pub arguments_from : {S B : Type 0} {owns : S → B → Type 0} {s : S} {b : Bounds}
    {args : List (SymValue B)} → OwnsAll owns s (values_bits args)
    → forms_of args ≡ map (form_for b.limits) (map param_type b.params)
    → AreArgumentsOf owns s b args
arguments_from {S} {B} {owns} {s} {b} {args} h e = record {
  formed = record { each = all_typed b.limits (map param_type b.params) args h e };
  typed = types_are b.limits (map param_type b.params) args e;
}
