use Rattle.std.proofs.Common.{◌≡◌, ◌∙◌, ◌+◌, ◌++◌, ◌∷◌, [], suc, ℕ, length, map, ap, sym, refl, arith, subst}
use Rattle.std.specs.Prelude.{replicate}
use Rattle.std.proofs.lemmas.List.{map_push}
use Rattle.mpy_tree.specs.Operations.{below}
use Rattle.bit_words.specs.Logic.{OwnsAll}
use Rattle.sym_values.specs.Owned.{owns_one_more}
use Rattle.sym_values.proofs.Held.{pushed_read}
use Rattle.sym_values.proofs.Paddings.{alike_more}
use Rattle.bit_lanes.specs.Columns.{item_of}
use Rattle.bit_lanes.specs.Digits.{digits_of, items_digits}
use Rattle.bit_lanes.specs.Lane.{lane_of, reads_table}
use Rattle.bit_lanes.specs.LaneCases.{Owns}
use Rattle.bit_lanes.proofs.LaneNumbers.{lanes_few}
use Rattle.bit_lanes.proofs.values.item_words.Goals as goal

pub loop-index-preserved : goal.loop-index-preserved
loop-index-preserved c =
    let before = c.loop-index.invariant in
    let i = c.loop-index.index in
    let w = c.from_vec.result in
    let is = c.from_vec.ensures in
    let next : i + 1 ≡ suc i = omega arith in
    record {
      made = λ s.
          let old = before.made s in
          let new = c.in_ok-word.ensures.made s in
          record {
            owned = owns_one_more (λ v. v) c.loop-index.words _ w old.owned (subst (OwnsAll Owns s) (sym is) new.owned) c.in_ok-push.ensures.ok;
            widths = pushed_read length length c.loop-index.words _ w _ _ refl old.widths (ap length is ∙ new.width) c.in_ok-push.ensures.ok ∙ sym (alike_more i c.args.width);
          };
      value = λ vs v e.
          let f = λ (k : ℕ). digits_of c.args.width (item_of k v) in
          let column = c.items-column.ensures.each (lane_of 6 vs) v (lanes_few vs) e in
          let here = ap (map (reads_table vs)) is ∙ c.in_ok-word.ensures.value vs (item_of i v) column in
          ap (map (map (reads_table vs))) c.in_ok-push.ensures.ok ∙ map_push (map (reads_table vs)) c.loop-index.words w
          ∙ ap (λ xs. xs ++ map (reads_table vs) w ∷ []) (before.value vs v e)
          ∙ ap (λ x. items_digits i c.args.width v ++ x ∷ []) here
          ∙ sym (ap (λ k. items_digits k c.args.width v) next ∙ map_push f (below i) i);
    }

pub returns-clause-made : goal.returns-clause-made
returns-clause-made c s =
    let end : c.loop-index.index ≡ c.args.cap = omega arith in
    let made = c.loop-index.invariant.made s in
    record { owned = made.owned; widths = made.widths ∙ ap (λ k. replicate k c.args.width) end }

pub returns-clause-value : goal.returns-clause-value
returns-clause-value c vs v e =
    let end : c.loop-index.index ≡ c.args.cap = omega arith in
    c.loop-index.invariant.value vs v e ∙ ap (λ k. items_digits k c.args.width v) end
