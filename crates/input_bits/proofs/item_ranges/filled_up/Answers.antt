use Rattle.std.proofs.Common.{◌∙◌, ◌++◌, ◌∷◌, [], ap, arith, length, sym, take}
use Rattle.std.proofs.lemmas.List.{length-map, map_push, take_all, take-append-le}
use Rattle.sym_values.specs.Forms.{lengths}
use Rattle.sym_values.specs.Owned.{owns_one_more}
use Rattle.input_bits.proofs.Items.{counted, mapped_more}
use Rattle.input_bits.proofs.item_ranges.filled_up.Goals as goal

pub loop-j-init : goal.loop-j-init
loop-j-init g c = record {
  owned = c.requires.owned;
  widths = c.requires.widths ∙ ap (λ k. take k (lengths c.args.items.now)) (sym c.len-start.ensures);
  first = take_all (length c.args.words) c.args.words (omega arith);
}

pub loop-j-preserved : goal.loop-j-preserved
loop-j-preserved g c =
    let before = c.loop-j.invariant in
    let j = c.loop-j.j in
    let items = c.args.items.now in
    let made = c.in_ok-zero.ensures.made in
    let pushed = c.in_ok-push.ensures.ok in
    let zero = c.in_ok-zero.zero in
    let many = length-map items length in
    let long = counted c.loop-j.whole (lengths items) j before.widths (omega arith) in
    record {
      owned = owns_one_more (λ w. w) c.loop-j.whole _ zero before.owned made.owned pushed;
      widths = ap lengths pushed ∙ map_push length c.loop-j.whole zero ∙ ap (λ w. w ++ length zero ∷ []) before.widths
          ∙ ap (λ k. take j (lengths items) ++ k ∷ []) (made.width ∙ c.len-width.ensures) ∙ sym (mapped_more length items j c.at.result.now c.at.ensures);
      first = ap (take (length c.args.words)) pushed ∙ take-append-le (length c.args.words) c.loop-j.whole (zero ∷ []) (omega arith) ∙ before.first;
    }

pub returns-clause-made : goal.returns-clause-made
returns-clause-made g c = record {
  owned = c.loop-j.invariant.owned;
  widths = c.loop-j.invariant.widths ∙ take_all c.loop-j.j (lengths c.args.items.now) (let many = length-map c.args.items.now length in omega arith);
}
