use Rattle.std.proofs.Common.{◌≡◌, ◌∙◌, true, length, map, ap, sym, subst}
use Rattle.std.specs.Prelude.{replicate}
use Rattle.mpy_tree.specs.declared.typing.Ty.{Ty}
use Rattle.mpy_tree.specs.Fitting.{fits_as}
use Rattle.bit_words.specs.Later.{owns_both}
use Rattle.bit_words.specs.Logic.{OwnsAll}
use Rattle.sym_values.specs.Forms.{IntForm, ListForm, TextForm, form_for, lengths}
use Rattle.bit_lanes.specs.Columns.{head_of}
use Rattle.bit_lanes.specs.Lane.{lane_of, reads_table}
use Rattle.bit_lanes.specs.LaneCases.{Owns}
use Rattle.bit_lanes.proofs.ColumnValues.{bool_is, int_is, lane_fits, list_is, text_is}
use Rattle.bit_lanes.proofs.LaneNumbers.{lanes_few}
use Rattle.bit_lanes.proofs.values.lane_value.Goals as goal

pub returns-in_ok-word-in-Int-clause-made : goal.returns-in_ok-word-in-Int-clause-made
returns-in_ok-word-in-Int-clause-made c s =
    let word = c.in_ok-word-in-Int.ensures.made s in
    record {
      owned = subst (OwnsAll Owns s) (sym c.from_vec.ensures) word.owned;
      form = ap IntForm (ap length c.from_vec.ensures ∙ word.width) ∙ ap (form_for c.args.l.now) (sym c.in-Int.is);
    }

pub returns-in_ok-word-in-Int-clause-value : goal.returns-in_ok-word-in-Int-clause-value
returns-in_ok-word-in-Int-clause-value c vs v e =
    let l = c.args.l.now in
    let fit = lane_fits l c.args.ty c.args.cases.now c.args.place (lane_of 6 vs) v c.requires e in
    let number = c.heads-column.ensures.lanes.each (lane_of 6 vs) v (lanes_few vs) e in
    int_is l v (map (reads_table vs) c.from_vec.result) (subst (λ (t : Ty). fits_as l t v ≡ true) c.in-Int.is fit)
    (ap (map (reads_table vs)) c.from_vec.ensures ∙ c.in_ok-word-in-Int.ensures.value vs (head_of v) number)

pub returns-in-Bool-clause-value : goal.returns-in-Bool-clause-value
returns-in-Bool-clause-value c vs v e =
    let l = c.args.l.now in
    let fit = lane_fits l c.args.ty c.args.cases.now c.args.place (lane_of 6 vs) v c.requires e in
    let number = c.heads-column.ensures.lanes.each (lane_of 6 vs) v (lanes_few vs) e in
    bool_is l v (reads_table vs c.table.result) (subst (λ (t : Ty). fits_as l t v ≡ true) c.in-Bool.is fit)
    (c.table.ensures (lane_of 6 vs) (head_of v) number)

pub returns-in_ok-items-in-List-clause-made : goal.returns-in_ok-items-in-List-clause-made
returns-in_ok-items-in-List-clause-made c s =
    let l = c.args.l.now in
    let len = c.in_ok-tables-in-List.ensures.made s in
    let items = c.in_ok-items-in-List.ensures.made s in
    let long = ap length c.from_vec-len.ensures ∙ len.width in
    let wide = items.widths in
    let form : ListForm (length c.from_vec-len.result) (lengths c.in_ok-items-in-List.items) ≡ ListForm 5 (replicate l.cap l.width) = cc in
    record {
      owned = owns_both (subst (OwnsAll Owns s) (sym c.from_vec-len.ensures) len.owned) items.owned;
      form = form ∙ ap (form_for l) (sym c.in-List.is);
    }

pub returns-in_ok-items-in-List-clause-value : goal.returns-in_ok-items-in-List-clause-value
returns-in_ok-items-in-List-clause-value c vs v e =
    let l = c.args.l.now in
    let fit = lane_fits l c.args.ty c.args.cases.now c.args.place (lane_of 6 vs) v c.requires e in
    let number = c.heads-column.ensures.lanes.each (lane_of 6 vs) v (lanes_few vs) e in
    list_is l v (map (reads_table vs) c.from_vec-len.result) (map (map (reads_table vs)) c.in_ok-items-in-List.items)
    (subst (λ (t : Ty). fits_as l t v ≡ true) c.in-List.is fit)
    (ap (map (reads_table vs)) c.from_vec-len.ensures ∙ c.in_ok-tables-in-List.ensures.value vs (head_of v) number)
    (c.in_ok-items-in-List.ensures.value vs v e)

pub returns-in_ok-items-in-Text-clause-made : goal.returns-in_ok-items-in-Text-clause-made
returns-in_ok-items-in-Text-clause-made c s =
    let l = c.args.l.now in
    let len = c.in_ok-tables-in-Text.ensures.made s in
    let items = c.in_ok-items-in-Text.ensures.made s in
    let long = ap length c.from_vec-len-in-Text.ensures ∙ len.width in
    let wide = items.widths in
    let form : TextForm (length c.from_vec-len-in-Text.result) (lengths c.in_ok-items-in-Text.items) ≡ TextForm 5 (replicate l.cap 7) = cc in
    record {
      owned = owns_both (subst (OwnsAll Owns s) (sym c.from_vec-len-in-Text.ensures) len.owned) items.owned;
      form = form ∙ ap (form_for l) (sym c.in-Text.is);
    }

pub returns-in_ok-items-in-Text-clause-value : goal.returns-in_ok-items-in-Text-clause-value
returns-in_ok-items-in-Text-clause-value c vs v e =
    let l = c.args.l.now in
    let fit = lane_fits l c.args.ty c.args.cases.now c.args.place (lane_of 6 vs) v c.requires e in
    let number = c.heads-column.ensures.lanes.each (lane_of 6 vs) v (lanes_few vs) e in
    text_is l v (map (reads_table vs) c.from_vec-len-in-Text.result) (map (map (reads_table vs)) c.in_ok-items-in-Text.items)
    (subst (λ (t : Ty). fits_as l t v ≡ true) c.in-Text.is fit)
    (c.heads-column.ensures.printable (lane_of 6 vs) v (lanes_few vs) e)
    (ap (map (reads_table vs)) c.from_vec-len-in-Text.ensures ∙ c.in_ok-tables-in-Text.ensures.value vs (head_of v) number)
    (c.in_ok-items-in-Text.ensures.value vs v e)
