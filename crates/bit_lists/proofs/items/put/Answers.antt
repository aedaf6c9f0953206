use Rattle.std.proofs.Common.{◌≡◌, ◌≤◌, ◌∙◌, ap, arith, refl, List, length, map}
use Rattle.std.proofs.lemmas.List.{length-map}
use Rattle.bit_words.specs.Logic.{extends_trans}
use Rattle.bit_words.specs.Words.{int_of, int_read, nat_of, nat_read}
use Rattle.bit_words.proofs.Kept.{owns_kept, reads_kept}
use Rattle.bit_lists.specs.Lists.{list_read, words_read}
use Rattle.bit_lists.proofs.Found.{outside_as, put_beside, put_as, put_is}
use Rattle.bit_lists.proofs.Held.{word_is, word_kept, words_kept, words_same}
use Rattle.bit_lists.proofs.Joining.{added_as}
use Rattle.bit_lists.proofs.items.put.Goals as goal

pub is_outside-requires : goal.is_outside-requires
is_outside-requires g c =
    let one = c.place.ensures.extends in
    let spot = c.in_ok-spot.ensures.made in
    record {
      some = c.requires.wide;
      few = c.requires.short;
      index = owns_kept one c.requires.index;
      wide = omega (arith, spot.width);
      place = spot.owned;
      len = word_kept one c.requires.list.length_of;
    }

pub with_item-requires : goal.with_item-requires
with_item-requires g c κs h =
    let until = extends_trans c.place.ensures.extends c.is_outside.ensures.extends in
    let spot = word_is c.as_slice.ensures (word_kept c.is_outside.ensures.extends c.in_ok-spot.ensures.made) in
    (h.0, (h.1, (spot.owned, (record { owned = owns_kept until c.requires.word; width = refl }, words_kept until c.requires.list.items_of))))

pub returns-clause-made : goal.returns-clause-made
returns-clause-made g c =
    let all = extends_trans (extends_trans c.place.ensures.extends c.is_outside.ensures.extends) c.with_item.ensures.extends in
    record { length_of = word_is c.in_ok-len.ensures (word_kept all c.requires.list.length_of); items_of = c.in_ok-items.ensures.made; many = c.in_ok-items.ensures.many }

pub returns-clause-owned : goal.returns-clause-owned
returns-clause-owned g c = c.with_item.ensures.extends.kept _ c.in_ok-fault.ensures.owned

pub returns-clause-length : goal.returns-clause-length
returns-clause-length g c vs =
    let all = extends_trans (extends_trans c.place.ensures.extends c.is_outside.ensures.extends) c.with_item.ensures.extends in
    ap (λ (w : List _). nat_of (map (g.L.Logic.reads c.with_item.new.g vs) w)) c.in_ok-len.ensures ∙ ap nat_of (reads_kept all c.requires.list.length_of.owned vs)

pub returns-clause-value : goal.returns-clause-value
returns-clause-value g c vs proper =
    let reads = g.L.Logic.reads in
    let f = reads c.args.g.now vs in
    let one = c.place.ensures.extends in
    let two = c.is_outside.ensures.extends in
    let until = extends_trans one two in
    let made = c.in_ok-spot.ensures.made in
    let whole = words_read reads c.args.g.now vs c.args.a.now.items.now in
    let new = words_read reads c.with_item.new.g vs c.in_ok-items.items in
    let spot = map (reads c.place.new.g vs) c.in_ok-spot.spot in
    let some : length spot ≡ length c.in_ok-spot.spot = simp length-map refl in
    let long : length whole ≡ length c.args.a.now.items.now = simp length-map refl in
    let new_long : length new ≡ length c.in_ok-items.items = simp length-map refl in
    let small : nat_read reads c.args.g.now vs c.args.a.now.len.now ≤ length c.args.a.now.items.now = proper in
    let index = ap int_of (reads_kept one c.requires.index vs) in
    let number = ap nat_of (reads_kept one c.requires.list.length_of.owned vs) in
    let outside = c.with_item.ensures.extends.same _ c.in_ok-fault.ensures.owned vs ∙ outside_as _ (c.in_ok-fault.ensures.value vs) index number in
    let later = ap nat_of (ap (map (reads c.is_outside.new.g vs)) c.as_slice.ensures ∙ reads_kept two made.owned vs) in
    let fault = reads c.with_item.new.g vs c.in_ok-fault.fault in
    put_beside fault (list_read reads c.with_item.new.g vs c.in_ok-len.len c.in_ok-items.items) whole (map f c.args.word.now) (int_read reads c.args.g.now vs c.args.index.now) (nat_read reads c.args.g.now vs c.args.a.now.len.now) (omega arith)
    (put_as _ new _ _ _ (returns-clause-length g c vs)
    (put_is (int_read reads c.args.g.now vs c.args.index.now) spot (nat_read reads c.args.g.now vs c.args.a.now.len.now) (map f c.args.word.now) whole new _
    (omega (arith, made.width)) (c.in_ok-spot.ensures.value vs) (omega arith) (omega (arith, c.in_ok-items.ensures.many)) outside
    (added_as new later (reads_kept until c.requires.word vs) (words_same until c.requires.list.items_of vs) long (c.in_ok-items.ensures.value vs))))
