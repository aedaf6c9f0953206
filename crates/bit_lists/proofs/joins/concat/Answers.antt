use Rattle.std.proofs.Common.{◌≡◌, ◌≤◌, ◌+◌, ◌∙◌, ap, sym, arith, refl, length, map, ℕ, List, not}
use Rattle.std.specs.Prelude.{nat_le}
use Rattle.std.proofs.lemmas.List.{length-map}
use Rattle.bit_words.specs.Logic.{extends_trans}
use Rattle.bit_words.specs.Words.{nat_of, nat_read}
use Rattle.bit_words.proofs.Kept.{reads_kept}
use Rattle.bit_lists.specs.Lists.{words_read}
use Rattle.bit_lists.proofs.Held.{word_is, word_kept, words_kept, words_same}
use Rattle.bit_lists.proofs.Joining.{joined_within, moved_as, spliced_as}
use Rattle.bit_lists.proofs.joins.concat.Goals as goal

pub sum_within-requires : goal.sum_within-requires
sum_within-requires g c =
    let needs = c.requires.1.1 in
    record { small = omega (arith, needs.0, c.count_of-cap.ensures); left = needs.1.0.length_of; right = needs.1.1.length_of }

pub moved-requires : goal.moved-requires
moved-requires g c κs h =
    let needs = c.requires.1.1 in
    let long = ap length c.as_slice-number.ensures ∙ needs.1.0.length_of.width in
    let few : length c.args.b.now.items.now ≤ 16 = omega (arith, needs.0, needs.1.1.many) in
    let number = word_is c.as_slice-number.ensures (word_kept c.sum_within.ensures.extends needs.1.0.length_of) in
    (h.0, (h.1, (long, (few, (number.owned, words_kept c.sum_within.ensures.extends needs.1.1.items_of)))))

pub splice-requires : goal.splice-requires
splice-requires g c κs h =
    let needs = c.requires.1.1 in
    let until = extends_trans c.sum_within.ensures.extends c.moved.ensures.extends in
    let number = word_is c.as_slice-number.ensures (word_kept until needs.1.0.length_of) in
    (h.0, (h.1, (needs.0, (c.in_ok-raised.ensures.many ∙ needs.1.1.many, (number.owned, (words_kept until needs.1.0.items_of, c.in_ok-raised.ensures.made))))))

pub returns-clause-made : goal.returns-clause-made
returns-clause-made g c =
    let last = extends_trans c.moved.ensures.extends c.splice.ensures.extends in
    record { length_of = word_kept last c.in_ok-total.ensures.made; items_of = c.in_ok-items.ensures.made; many = c.in_ok-items.ensures.many }

pub returns-clause-owned : goal.returns-clause-owned
returns-clause-owned g c = (extends_trans c.moved.ensures.extends c.splice.ensures.extends).kept _ c.in_ok-total.ensures.owned

pub returns-clause-proper : goal.returns-clause-proper
returns-clause-proper g c vs =
    let last = extends_trans c.moved.ensures.extends c.splice.ensures.extends in
    let len = ap nat_of (reads_kept last c.in_ok-total.ensures.made.owned vs) in
    let small = c.in_ok-total.ensures.within vs in
    omega (arith, len, small, c.count_of-cap.ensures, c.in_ok-items.ensures.many)

pub returns-clause-value : goal.returns-clause-value
returns-clause-value g c vs proper also =
    let needs = c.requires.1.1 in
    let reads = g.L.Logic.reads in
    let f = reads c.args.g.now vs in
    let one = c.sum_within.ensures.extends in
    let until = extends_trans one c.moved.ensures.extends in
    let last = extends_trans c.moved.ensures.extends c.splice.ensures.extends in
    let xs = words_read reads c.args.g.now vs c.args.a.now.items.now in
    let ys = words_read reads c.args.g.now vs c.args.b.now.items.now in
    let raised = words_read reads c.moved.new.g vs c.in_ok-raised.raised in
    let new = words_read reads c.splice.new.g vs c.in_ok-items.items in
    let long : length xs ≡ length c.args.a.now.items.now = simp length-map refl in
    let also_long : length ys ≡ length c.args.b.now.items.now = simp length-map refl in
    let new_long : length new ≡ length c.in_ok-items.items = simp length-map refl in
    let left : nat_read reads c.args.g.now vs c.args.a.now.len.now ≤ length c.args.a.now.items.now = proper in
    let right : nat_read reads c.args.g.now vs c.args.b.now.len.now ≤ length c.args.b.now.items.now = also in
    let number = ap (λ (w : List _). nat_of (map (reads c.sum_within.new.g vs) w)) c.as_slice-number.ensures ∙ ap nat_of (reads_kept one needs.1.0.length_of.owned vs) in
    let number_later = ap (λ (w : List _). nat_of (map (reads c.moved.new.g vs) w)) c.as_slice-number.ensures ∙ ap nat_of (reads_kept until needs.1.0.length_of.owned vs) in
    let len = ap nat_of (reads_kept last c.in_ok-total.ensures.made.owned vs) in
    let cap = c.count_of-cap.ensures in
    let fault = last.same _ c.in_ok-total.ensures.owned vs ∙ c.in_ok-total.ensures.fault vs ∙ ap (λ (n : ℕ). not (nat_le (nat_read reads c.args.g.now vs c.args.a.now.len.now + nat_read reads c.args.g.now vs c.args.b.now.len.now) n)) cap in
    let up = moved_as raised number (words_same one needs.1.1.items_of vs) (c.in_ok-raised.ensures.value vs) in
    joined_within xs ys raised new _ _ (nat_read reads c.splice.new.g vs c.in_ok-total.total.len) (length c.args.a.now.items.now) _ (omega (arith, needs.1.1.many)) (omega (arith, c.in_ok-items.ensures.many)) (sym long) (omega arith) (omega arith)
    fault
    (λ k. len ∙ c.in_ok-total.ensures.value vs (ap (nat_le _) cap ∙ k))
    up
    (spliced_as raised new number_later (words_same until needs.1.0.items_of vs) long (c.in_ok-items.ensures.value vs))
