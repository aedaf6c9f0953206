use Rattle.std.proofs.Common.{◌≡◌, ◌∙◌, arith, ap, sym, refl, length, map}
use Rattle.std.specs.Prelude.{replicate}
use Rattle.bit_words.specs.Words.{nat_of}
use Rattle.sym_values.specs.Constants.{padded}
use Rattle.sym_values.specs.Owned.{owns_one_more}
use Rattle.sym_values.proofs.Held.{pushed_read}
use Rattle.sym_values.proofs.Paddings.{alike_more, item_more, padded_more}
use Rattle.sym_values.proofs.constant.character_items.Goals as goal

pub loop-i-preserved : goal.loop-i-preserved
loop-i-preserved g c =
    let before = c.loop-i.invariant in
    let made = c.in_ok-item.ensures.made in
    record {
      owned = owns_one_more (λ w. w) c.loop-i.items _ c.in_ok-item.item before.owned made.owned c.in_ok-push.ensures.ok;
      widths = pushed_read length length c.loop-i.items _ c.in_ok-item.item _ _ refl before.widths made.width c.in_ok-push.ensures.ok ∙ sym (alike_more c.loop-i.i 7);
      value = λ vs.
          let f = g.L.Logic.reads c.args.g.now vs in
          item_more nat_of (map f) c.loop-i.items _ c.in_ok-item.item _ _ (before.value vs) (c.in_ok-item.ensures.value vs ∙ c.character_at-character.ensures.value) c.in_ok-push.ensures.ok
          ∙ sym (padded_more 0 c.loop-i.i c.args.characters.now);
    }

pub returns-clause-made : goal.returns-clause-made
returns-clause-made g c =
    let end : c.loop-i.i ≡ c.args.limits.now.cap = omega arith in
    record { owned = c.loop-i.invariant.owned; widths = c.loop-i.invariant.widths ∙ ap (λ k. replicate k 7) end }

pub returns-clause-value : goal.returns-clause-value
returns-clause-value g c vs =
    let end : c.loop-i.i ≡ c.args.limits.now.cap = omega arith in
    c.loop-i.invariant.value vs ∙ ap (λ k. padded 0 k c.args.characters.now) end
