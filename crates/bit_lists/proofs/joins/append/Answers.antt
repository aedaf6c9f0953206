use Rattle.std.proofs.Common.{◌≡◌, ◌≤◌, ◌+◌, ◌∙◌, ap, sym, arith, refl, length, map, ℕ, List, not}
use Rattle.std.specs.Prelude.{nat_le}
use Rattle.std.proofs.lemmas.List.{length-map}
use Rattle.bit_words.specs.Words.{nat_of, nat_read}
use Rattle.bit_words.proofs.Kept.{owns_kept, reads_kept}
use Rattle.bit_lists.specs.Lists.{words_read}
use Rattle.bit_lists.proofs.Held.{word_is, word_kept, words_kept, words_same}
use Rattle.bit_lists.proofs.Joining.{appended_within, added_as}
use Rattle.bit_lists.proofs.joins.append.Goals as goal

pub sum_within-requires : goal.sum_within-requires
sum_within-requires g c = record { small = omega (arith, c.requires.few, c.count_of-cap.ensures); left = c.requires.list.length_of; right = c.in_ok-one.ensures.made }

pub with_item-requires : goal.with_item-requires
with_item-requires g c κs h =
    let one = c.sum_within.ensures.extends in
    let number = word_is c.as_slice.ensures (word_kept one c.requires.list.length_of) in
    (h.0, (h.1, (number.owned, (record { owned = owns_kept one c.requires.word; width = refl }, words_kept one c.requires.list.items_of))))

pub returns-clause-made : goal.returns-clause-made
returns-clause-made g c = record { length_of = word_kept c.with_item.ensures.extends c.in_ok-total.ensures.made; items_of = c.in_ok-items.ensures.made; many = c.in_ok-items.ensures.many }

pub returns-clause-owned : goal.returns-clause-owned
returns-clause-owned g c = c.with_item.ensures.extends.kept _ c.in_ok-total.ensures.owned

pub returns-clause-proper : goal.returns-clause-proper
returns-clause-proper g c vs =
    let len = ap nat_of (reads_kept c.with_item.ensures.extends c.in_ok-total.ensures.made.owned vs) in
    let small = c.in_ok-total.ensures.within vs in
    omega (arith, len, small, c.count_of-cap.ensures, c.in_ok-items.ensures.many)

pub returns-clause-value : goal.returns-clause-value
returns-clause-value g c vs proper =
    let reads = g.L.Logic.reads in
    let f = reads c.args.g.now vs in
    let one = c.sum_within.ensures.extends in
    let last = c.with_item.ensures.extends in
    let xs = words_read reads c.args.g.now vs c.args.a.now.items.now in
    let new = words_read reads c.with_item.new.g vs c.in_ok-items.items in
    let n = nat_read reads c.args.g.now vs c.args.a.now.len.now in
    let long : length xs ≡ length c.args.a.now.items.now = simp length-map refl in
    let new_long : length new ≡ length c.in_ok-items.items = simp length-map refl in
    let left : nat_read reads c.args.g.now vs c.args.a.now.len.now ≤ length c.args.a.now.items.now = proper in
    let number = ap (λ (w : List _). nat_of (map (reads c.sum_within.new.g vs) w)) c.as_slice.ensures ∙ ap nat_of (reads_kept one c.requires.list.length_of.owned vs) in
    let len = ap nat_of (reads_kept last c.in_ok-total.ensures.made.owned vs) in
    let cap = c.count_of-cap.ensures in
    let more = c.in_ok-one.ensures.value vs in
    let fault = last.same _ c.in_ok-total.ensures.owned vs ∙ c.in_ok-total.ensures.fault vs
    ∙ ap (λ (m : ℕ). not (nat_le (nat_read reads c.args.g.now vs c.args.a.now.len.now + m) c.count_of-cap.result)) more
    ∙ ap (λ (m : ℕ). not (nat_le (nat_read reads c.args.g.now vs c.args.a.now.len.now + 1) m)) cap in
    appended_within xs new (map f c.args.word.now) _ (nat_read reads c.with_item.new.g vs c.in_ok-total.total.len) (length c.args.a.now.items.now) _ (omega (arith, c.in_ok-items.ensures.many)) (sym long) (omega arith)
    fault
    (λ k. len ∙ c.in_ok-total.ensures.value vs (ap (λ (m : ℕ). nat_le (nat_read reads c.args.g.now vs c.args.a.now.len.now + m) c.count_of-cap.result) more ∙ ap (nat_le _) cap ∙ k) ∙ ap (λ (m : ℕ). nat_read reads c.args.g.now vs c.args.a.now.len.now + m) more)
    (added_as new number (reads_kept one c.requires.word vs) (words_same one c.requires.list.items_of vs) long (c.in_ok-items.ensures.value vs))
