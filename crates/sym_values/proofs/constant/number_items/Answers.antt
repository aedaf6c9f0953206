use Rattle.std.proofs.Common.{rules, w32, ◌≡◌, ◌∙◌, arith, ap, sym, refl, length, map}
use Rattle.std.specs.Prelude.{pos, replicate}
use Rattle.std.proofs.lemmas.Int.{to_z-of_z}
use Rattle.bit_words.specs.Words.{int_of}
use Rattle.sym_values.specs.Constants.{padded}
use Rattle.sym_values.specs.Owned.{owns_one_more}
use Rattle.sym_values.proofs.Held.{pushed_read}
use Rattle.sym_values.proofs.Paddings.{alike_more, item_more, number_holds, padded_more}
use Rattle.sym_values.proofs.constant.number_items.Goals as goal

pub loop-i-preserved : goal.loop-i-preserved
loop-i-preserved g c =
    let before = c.loop-i.invariant in
    let made = c.in_ok-item.ensures.made in
    record {
      owned = owns_one_more (λ w. w) c.loop-i.items _ c.in_ok-item.item.word before.owned made.owned c.in_ok-push.ensures.ok;
      widths = pushed_read length length c.loop-i.items _ c.in_ok-item.item.word _ _ refl before.widths made.width c.in_ok-push.ensures.ok ∙ sym (alike_more c.loop-i.i c.args.limits.now.width);
      value = λ vs.
          let f = g.L.Logic.reads c.args.g.now vs in
          item_more int_of (map f) c.loop-i.items _ c.in_ok-item.item.word _ _ (before.value vs) (number_holds c.args.limits.now c.args.numbers.now c.loop-i.i _ c.number_at-number.result c.requires c.number_at-number.ensures (rw (to_z-of_z w32 c.number_at-number.result (search rules)) at (c.in_ok-item.ensures.value vs))) c.in_ok-push.ensures.ok
          ∙ sym (padded_more (pos 0) c.loop-i.i c.args.numbers.now);
    }

pub returns-clause-made : goal.returns-clause-made
returns-clause-made g c =
    let end : c.loop-i.i ≡ c.args.limits.now.cap = omega arith in
    record { owned = c.loop-i.invariant.owned; widths = c.loop-i.invariant.widths ∙ ap (λ k. replicate k c.args.limits.now.width) end }

pub returns-clause-value : goal.returns-clause-value
returns-clause-value g c vs =
    let end : c.loop-i.i ≡ c.args.limits.now.cap = omega arith in
    c.loop-i.invariant.value vs ∙ ap (λ k. padded (pos 0) k c.args.numbers.now) end
