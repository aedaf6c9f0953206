use Rattle.std.proofs.Common.{◌≡◌, ◌≤◌, ◌∙◌, ap, arith, refl, length, map}
use Rattle.std.proofs.lemmas.List.{length-map}
use Rattle.bit_words.specs.Logic.{extends_trans}
use Rattle.bit_words.specs.Words.{int_of, int_read, nat_of, nat_read}
use Rattle.bit_words.proofs.Kept.{owns_kept, reads_kept}
use Rattle.bit_lists.specs.Lists.{words_read}
use Rattle.bit_lists.proofs.Found.{item_beside, item_is, outside_as, picked_as}
use Rattle.bit_lists.proofs.Held.{word_is, word_kept, words_kept, words_same}
use Rattle.bit_lists.proofs.items.index.Goals as goal

pub place-requires : goal.place-requires
place-requires g c =
    let needs = c.requires.1.1 in
    record { some = needs.1.1.1.0; few = needs.1.1.1.1.0; index = needs.1.1.1.1.1; len = needs.1.1.0.length_of }

pub is_outside-requires : goal.is_outside-requires
is_outside-requires g c =
    let needs = c.requires.1.1 in
    let one = c.place.ensures.extends in
    let spot = c.in_ok-spot.ensures.made in
    record {
      some = needs.1.1.1.0;
      few = needs.1.1.1.1.0;
      index = owns_kept one needs.1.1.1.1.1;
      wide = omega (arith, spot.width);
      place = spot.owned;
      len = word_kept one needs.1.1.0.length_of;
    }

pub item_at-requires : goal.item_at-requires
item_at-requires g c κs h =
    let needs = c.requires.1.1 in
    let until = extends_trans c.place.ensures.extends c.is_outside.ensures.extends in
    let spot = word_is c.as_slice.ensures (word_kept c.is_outside.ensures.extends c.in_ok-spot.ensures.made) in
    (h.0, (h.1, (needs.0, (spot.owned, words_kept until needs.1.1.0.items_of))))

pub returns-clause-owned : goal.returns-clause-owned
returns-clause-owned g c = c.item_at.ensures.extends.kept _ c.in_ok-fault.ensures.owned

pub returns-clause-value : goal.returns-clause-value
returns-clause-value g c vs proper =
    let needs = c.requires.1.1 in
    let reads = g.L.Logic.reads in
    let f = reads c.args.g.now vs in
    let one = c.place.ensures.extends in
    let two = c.is_outside.ensures.extends in
    let until = extends_trans one two in
    let made = c.in_ok-spot.ensures.made in
    let whole = words_read reads c.args.g.now vs c.args.a.now.items.now in
    let spot = map (reads c.place.new.g vs) c.in_ok-spot.spot in
    let some : length spot ≡ length c.in_ok-spot.spot = simp length-map refl in
    let index = ap int_of (reads_kept one needs.1.1.1.1.1 vs) in
    let number = ap nat_of (reads_kept one needs.1.1.0.length_of.owned vs) in
    let outside = c.item_at.ensures.extends.same _ c.in_ok-fault.ensures.owned vs ∙ outside_as _ (c.in_ok-fault.ensures.value vs) index number in
    let later = ap nat_of (ap (map (reads c.is_outside.new.g vs)) c.as_slice.ensures ∙ reads_kept two made.owned vs) in
    let long : length whole ≡ length c.args.a.now.items.now = simp length-map refl in
    let small : nat_read reads c.args.g.now vs c.args.a.now.len.now ≤ length c.args.a.now.items.now = proper in
    let fault = reads c.item_at.new.g vs c.in_ok-fault.fault in
    item_beside fault (map (reads c.item_at.new.g vs) c.in_ok-word.word) whole (int_read reads c.args.g.now vs c.args.index.now) (nat_read reads c.args.g.now vs c.args.a.now.len.now) (omega arith)
    (item_is (int_read reads c.args.g.now vs c.args.index.now) spot (nat_read reads c.args.g.now vs c.args.a.now.len.now) (length c.args.a.now.items.now) (map (reads c.item_at.new.g vs) c.in_ok-word.word) whole fault
    (omega (arith, made.width)) (c.in_ok-spot.ensures.value vs) proper outside
    (picked_as later (words_same until needs.1.1.0.items_of vs) (c.in_ok-word.ensures.value vs)))
