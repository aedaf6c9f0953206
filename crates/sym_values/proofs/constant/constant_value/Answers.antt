use Rattle.std.proofs.Common.{rules, w32, ◌∙◌, ap, sym, Bool}
use Rattle.std.specs.Prelude.{ℤ}
use Rattle.std.proofs.lemmas.Int.{to_z-of_z}
use Rattle.mpy_tree.specs.Fitting.{type_of}
use Rattle.mpy_tree.specs.declared.value.Value.{Value}
use Rattle.mpy_tree.specs.declared.value.Value.TheVariants as val
use Rattle.bit_words.specs.Later.{owns_both}
use Rattle.sym_values.specs.Forms.{form_for}
use Rattle.sym_values.specs.Owned.{owns_alone}
use Rattle.sym_values.specs.Reading.{sure}
use Rattle.sym_values.proofs.Paddings.{int_form, int_room, list_form, list_read, list_room, room_small, text_form, text_read, text_room}
use Rattle.sym_values.proofs.constant.constant_value.Goals as goal

pub length_bits-requires : goal.length_bits-requires
length_bits-requires g c = rw c.len.ensures (room_small c.args.limits.now _ (list_room c.args.limits.now _ _ c.in-List.is c.requires).0)

pub length_bits-requires-in-Text : goal.length_bits-requires-in-Text
length_bits-requires-in-Text g c = rw c.len-in-Text.ensures (room_small c.args.limits.now _ (text_room c.args.limits.now _ _ c.in-Text.is c.requires))

pub number_items-requires : goal.number_items-requires
number_items-requires g c = rw c.items.ensures (list_room c.args.limits.now _ _ c.in-List.is c.requires).1

pub returns-in_ok-number-in-Int-clause-value : goal.returns-in_ok-number-in-Int-clause-value
returns-in_ok-number-in-Int-clause-value g c vs =
    let holds = rw (to_z-of_z w32 c.in-Int.number (search rules)) at (c.in_ok-number-in-Int.ensures.value vs) in
    ap (λ (n : ℤ). sure (val.Int n)) (holds (int_room c.args.limits.now _ _ c.in-Int.is c.requires)) ∙ ap sure (sym c.in-Int.is)

pub returns-in_ok-items-in-List-clause-value : goal.returns-in_ok-items-in-List-clause-value
returns-in_ok-items-in-List-clause-value g c vs =
    list_read c.args.limits.now _ _ _ _ (c.in_ok-len-in-List.ensures.value vs ∙ c.len.ensures) (rw c.items.ensures at (c.in_ok-items-in-List.ensures.value vs)) (list_room c.args.limits.now _ _ c.in-List.is c.requires).0 c.in-List.is

pub returns-in_ok-items-in-Text-clause-value : goal.returns-in_ok-items-in-Text-clause-value
returns-in_ok-items-in-Text-clause-value g c vs =
    text_read c.args.limits.now _ _ _ _ (c.in_ok-len-in-Text.ensures.value vs ∙ c.len-in-Text.ensures) (rw c.bytes.ensures.same at (c.in_ok-items-in-Text.ensures.value vs)) (text_room c.args.limits.now _ _ c.in-Text.is c.requires) c.in-Text.is

pub returns-in-Bool-clause-value : goal.returns-in-Bool-clause-value
returns-in-Bool-clause-value g c vs = ap (λ (b : Bool). sure (val.Bool b)) (c.constant.ensures.value vs) ∙ ap sure (sym c.in-Bool.is)

pub returns-in-Bool-clause-made : goal.returns-in-Bool-clause-made
returns-in-Bool-clause-made g c = record { owned = owns_alone c.constant.ensures.owned; form = ap (λ (u : Value). form_for c.args.limits.now (type_of u)) (sym c.in-Bool.is) }

pub returns-in_ok-number-in-Int-clause-made : goal.returns-in_ok-number-in-Int-clause-made
returns-in_ok-number-in-Int-clause-made g c =
    let made = c.in_ok-number-in-Int.ensures.made in
    record { owned = made.owned; form = int_form c.args.limits.now _ _ _ c.in-Int.is made.width }

pub returns-in_ok-items-in-List-clause-made : goal.returns-in_ok-items-in-List-clause-made
returns-in_ok-items-in-List-clause-made g c =
    let len = c.in_ok-len-in-List.ensures.made in
    let items = c.in_ok-items-in-List.ensures.made in
    record { owned = owns_both len.owned items.owned; form = list_form c.args.limits.now _ _ _ _ c.in-List.is len.width items.widths }

pub returns-in_ok-items-in-Text-clause-made : goal.returns-in_ok-items-in-Text-clause-made
returns-in_ok-items-in-Text-clause-made g c =
    let len = c.in_ok-len-in-Text.ensures.made in
    let items = c.in_ok-items-in-Text.ensures.made in
    record { owned = owns_both len.owned items.owned; form = text_form c.args.limits.now _ _ _ _ c.in-Text.is len.width items.widths }
