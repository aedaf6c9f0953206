use Rattle.std.proofs.Common.{◌≡◌, ◌+◌, ◌-◌, ◌∙◌, ap, sym, subst, arith, refl, length, length-append, map, List, Bool, ℕ, cond}
use Rattle.std.proofs.lemmas.List.{length-map}
use Rattle.bit_words.specs.Logic.{extends_refl, extends_trans}
use Rattle.bit_words.specs.Results.{IsWordIn}
use Rattle.bit_words.specs.Words.{fits, int_of, int_read, nat_of, nat_read}
use Rattle.bit_words.proofs.Kept.{reads_kept}
use Rattle.bit_lists.specs.Lists.{AreWordsIn, words_read}
use Rattle.bit_lists.proofs.Held.{no_words, word_as, word_is, word_kept, words_kept, words_push, words_same}
use Rattle.bit_lists.proofs.Ranging.{alive_as, all_listed, chosen_number, few_more, listed_more, none_listed, sum_as}
use Rattle.bit_lists.proofs.ranges.listed.Goals as goal

pub loop-k-init : goal.loop-k-init
loop-k-init g c =
    let needs = c.requires.1.1 in
    record {
      extends = extends_refl;
      number = needs.1.1.0;
      alive = needs.1.1.1.1.1;
      len = c.in_ok-len.ensures.made;
      made = subst (AreWordsIn g.L.Logic.owns c.args.g.now g.width) (sym c.new-items.ensures) no_words;
      many = ap length c.new-items.ensures;
      within = λ vs. let none = c.in_ok-len.ensures.value vs in omega (arith, none);
      value = λ vs some h l m e. none_listed _ _ _ _ _ _ some e (c.in_ok-len.ensures.value vs);
    }

pub narrow-requires : goal.narrow-requires
narrow-requires g c =
    let needs = c.requires.1.1 in
    let before = c.loop-k.invariant in
    record {
      some = omega (arith, needs.0, needs.1.1.0.width, c.len-width.ensures);
      wider = omega (arith, before.number.width, needs.1.1.0.width, c.len-width.ensures);
      owned = before.number.owned;
    }

pub choose_bits-requires : goal.choose_bits-requires
choose_bits-requires g c =
    let before = c.loop-k.invariant in
    let one = c.narrow.ensures.extends in
    let more = word_is c.as_slice.ensures c.in_ok-more.ensures.made in
    let len = word_is c.as_slice-in-loop-k.ensures (word_kept one before.len) in
    record { test = one.kept _ before.alive; alike = len.width ∙ sym more.width; yes = more.owned; no = len.owned }

pub advanced-requires : goal.advanced-requires
advanced-requires g c =
    let needs = c.requires.1.1 in
    let before = c.loop-k.invariant in
    let two = extends_trans c.narrow.ensures.extends c.choose_bits.ensures.extends in
    let until = extends_trans before.extends two in
    let number = word_kept two before.number in
    record {
      some = omega (arith, number.width);
      to = word_as (sym number.width) (word_kept until needs.1.1.1.0);
      step = word_as (sym number.width) (word_kept until needs.1.1.1.1.0);
      number = number.owned;
      alive = two.kept _ before.alive;
    }

pub loop-k-preserved : goal.loop-k-preserved
loop-k-preserved g c =
    let needs = c.requires.1.1 in
    let reads = g.L.Logic.reads in
    let k = c.loop-k.k in
    let before = c.loop-k.invariant in
    let one = c.narrow.ensures.extends in
    let two = c.choose_bits.ensures.extends in
    let three = c.advanced.ensures.extends in
    let first = extends_trans one two in
    let last = extends_trans two three in
    let all = extends_trans first three in
    let until = extends_trans before.extends first in
    let wide : c.len-width.result - 1 ≡ g.width = omega (arith, needs.1.1.0.width, c.len-width.ensures) in
    let item_made = c.in_ok-item.ensures.made in
    let item : IsWordIn g.L.Logic.owns c.narrow.new.g g.width c.in_ok-item.item.word = record { owned = item_made.owned; width = item_made.width ∙ wide } in
    let more = word_is c.as_slice.ensures c.in_ok-more.ensures.made in
    let next = c.in_ok-at.ensures.made in
    let size = λ (vs : List Bool).
    ap nat_of (reads_kept three c.in_ok-len-2.ensures.made.owned vs)
    ∙ chosen_number (reads c.narrow.new.g vs c.loop-k.at.alive) _ _ _ (k + 1) (nat_read reads c.loop-k.g vs c.loop-k.len) (c.in_ok-len-2.ensures.value vs)
    (ap (λ (w : List _). nat_of (map (reads c.narrow.new.g vs) w)) c.as_slice.ensures ∙ c.in_ok-more.ensures.value vs)
    (ap (λ (w : List _). nat_of (map (reads c.narrow.new.g vs) w)) c.as_slice-in-loop-k.ensures ∙ ap nat_of (reads_kept one before.len.owned vs))
    ∙ ap (λ t. cond t (k + 1) (nat_read reads c.loop-k.g vs c.loop-k.len)) (one.same _ before.alive vs) in
    record {
      extends = extends_trans until three;
      number = record { owned = next.owned; width = next.width ∙ before.number.width };
      alive = c.in_ok-at.ensures.owned;
      len = word_kept three (record { owned = c.in_ok-len-2.ensures.made.owned; width = c.in_ok-len-2.ensures.made.width ∙ more.width });
      made = words_push (words_kept all before.made) (word_kept last item) c.in_ok-push.ensures.ok;
      many = ap length c.in_ok-push.ensures.ok ∙ simp (length-append) (omega arith);
      within = λ vs. few_more _ k _ _ (size vs) (before.within vs);
      value = λ vs some h l m e.
          listed_more g.width _ _ _ _ _ (reads c.loop-k.g vs) (reads c.advanced.new.g vs) _ _ _ k _ _ _ _ needs.0 some h l m (before.value vs some h l m e) before.many (words_same all before.made vs) c.in_ok-push.ensures.ok
          (λ t. ap int_of (reads_kept last item.owned vs) ∙ c.in_ok-item.ensures.value vs (ap (λ (n : ℕ). fits n (int_read reads c.loop-k.g vs c.loop-k.at.number)) wide ∙ t))
          (size vs)
          (sum_as (ap int_of (reads_kept first before.number.owned vs)) (ap int_of (reads_kept until needs.1.1.1.1.0.owned vs)) before.number.width (c.in_ok-at.ensures.number vs))
          (alive_as (c.in_ok-at.ensures.alive vs) (first.same _ before.alive vs) refl (ap int_of (reads_kept until needs.1.1.1.1.0.owned vs)) refl (ap int_of (reads_kept until needs.1.1.1.0.owned vs)));
    }

pub returns-clause-made : goal.returns-clause-made
returns-clause-made g c =
    let before = c.loop-k.invariant in
    record { length_of = before.len; items_of = before.made; many = omega (arith, before.many) }

pub returns-clause-proper : goal.returns-clause-proper
returns-clause-proper g c vs =
    let before = c.loop-k.invariant in
    let small = before.within vs in
    omega (arith, small, before.many)

pub returns-clause-value : goal.returns-clause-value
returns-clause-value g c vs some h l m e =
    let before = c.loop-k.invariant in
    let new = words_read g.L.Logic.reads c.loop-k.g vs c.loop-k.items in
    let long : length new ≡ length c.loop-k.items = simp length-map refl in
    all_listed _ _ _ _ new _ c.loop-k.k c.args.cap _ (omega arith) (omega (arith, before.many)) (before.value vs some h l m e)
