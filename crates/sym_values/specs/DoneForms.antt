-- The forms of the values with which runs end.
use Rattle.std.specs.Prelude.{◌≡◌, ◌≤◌, All, [], Option, Some, None, option_map}
use Rattle.std.specs.Prelude.{option_to_list}
use Rattle.std.proofs.Common.{◌∙◌, sym}
use Rattle.std.proofs.lemmas.List.Elements.{All-cons, All-nil}
use Rattle.mpy_tree.specs.declared.limits.Limits.{Limits}
use Rattle.mpy_tree.specs.declared.typing.Ty.{Ty}
use Rattle.sym_values.specs.declared.done.SymDone.{SymDone}
use Rattle.sym_values.specs.declared.value.SymValue.{SymValue}
use Rattle.sym_values.specs.Forms.{Form, form_for, form_of}
use Rattle.sym_values.specs.Printed.{IsDoneIn}
use Rattle.sym_values.specs.Rooms.{room_of, short_room}

short_value : {B : Type 0} (l : Limits) (t : Option Ty) (x : Option (SymValue B))
    → option_map form_of x ≡ option_map (form_for l) t
    → All (λ v. room_of v ≤ 16) (option_to_list x)
short_value l t None e = All-nil (λ v. room_of v ≤ 16)
short_value l None (Some x) e = absurd cc
short_value l (Some t) (Some x) e =
    let form : form_of x ≡ form_for l t = cc in
    All-cons (λ v. room_of v ≤ 16) x [] (short_room l t x form) (All-nil (λ v. room_of v ≤ 16))

module _ {S B : Type 0} {owns : S → B → Type 0} {s : S} {l : Limits} where
  -- a value has room for 16 items at most
  pub short_end : {d : SymDone B} (t : Option Ty)
      → IsDoneIn owns s l (option_map (form_for l) t) d
      → All (λ v. room_of v ≤ 16) (option_to_list d.value)
  short_end {d} t h = short_value l t d.value h.form

  -- two ends of one form: that of the value of the first
  pub same_form : {f : Option Form} {a b : SymDone B} → IsDoneIn owns s l f a
      → IsDoneIn owns s l f b → IsDoneIn owns s l (option_map form_of a.value) b
  same_form h k = record {
    owned = k.owned;
    owned_has = k.owned_has;
    owned_fault = k.owned_fault;
    owned_len = k.owned_len;
    owned_slots = k.owned_slots;
    form = k.form ∙ sym h.form;
    long = k.long;
    many = k.many;
    widths = k.widths;
  }
