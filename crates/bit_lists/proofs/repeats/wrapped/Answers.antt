use Rattle.std.proofs.Common.{◌≡◌, ◌∙◌, ap, sym, subst, arith, refl, length, map, List}
use Rattle.std.specs.Prelude.{nat_eq}
use Rattle.std.proofs.lemmas.List.{length-map}
use Rattle.bit_words.specs.Logic.{extends_refl, extends_trans}
use Rattle.bit_words.specs.Words.{nat_of, nat_read}
use Rattle.bit_words.proofs.Kept.{reads_kept}
use Rattle.bit_lists.specs.Lists.{AreWordsIn, word_at, words_read}
use Rattle.bit_lists.proofs.Held.{word_is, word_kept, words_kept, words_same}
use Rattle.bit_lists.proofs.Repeating.{wrap_all, wrap_as, wrap_more, wrap_none}
use Rattle.bit_lists.proofs.repeats.wrapped.Goals as goal

pub loop-count-init : goal.loop-count-init
loop-count-init g c =
    let needs = c.requires.1.1 in
    let reads = g.L.Logic.reads in
    record {
      extends = extends_refl;
      made = subst (AreWordsIn g.L.Logic.owns c.args.g.now g.width) (sym c.in_ok-wrapped.ensures) needs.1.1;
      many = ap length c.in_ok-wrapped.ensures;
      some = omega arith;
      value = λ vs k h some. ap (λ (v : List _). word_at (words_read reads c.args.g.now vs v) k) c.in_ok-wrapped.ensures ∙ wrap_none _ _ k some;
    }

pub is_place-requires : goal.is_place-requires
is_place-requires g c =
    let needs = c.requires.1.1 in
    let number = word_is c.as_slice.ensures (word_kept c.loop-count.invariant.extends needs.1.0) in
    record { small = omega (arith, needs.0); owned = number.owned }

pub wrapped_where-requires : goal.wrapped_where-requires
wrapped_where-requires g c κs h =
    let needs = c.requires.1.1 in
    let before = c.loop-count.invariant in
    let one = c.is_place.ensures.extends in
    (h.0, (h.1, (omega (arith, before.some), (omega arith, (before.many, (c.in_ok-here.ensures.owned, (words_kept (extends_trans before.extends one) needs.1.1, words_kept one before.made)))))))

pub loop-count-preserved : goal.loop-count-preserved
loop-count-preserved g c =
    let needs = c.requires.1.1 in
    let reads = g.L.Logic.reads in
    let before = c.loop-count.invariant in
    let one = c.is_place.ensures.extends in
    let until = extends_trans before.extends one in
    let last = c.wrapped_where.ensures.extends in
    record {
      extends = extends_trans until last;
      made = c.in_ok-wrapped-2.ensures.made;
      many = c.in_ok-wrapped-2.ensures.many;
      some = omega (arith, before.some);
      value = λ vs k h some.
          let n = nat_read reads c.args.g.now vs c.args.len.now in
          let xs = words_read reads c.args.g.now vs c.args.items.now in
          let number = ap (λ (w : List _). nat_of (map (reads c.loop-count.g vs) w)) c.as_slice.ensures ∙ ap nat_of (reads_kept before.extends needs.1.0.owned vs) in
          let test = c.in_ok-here.ensures.value vs ∙ ap (nat_eq c.loop-count.count) number in
          let items = words_same until needs.1.1 vs in
          let others = words_same one before.made vs in
          wrap_more xs (words_read reads c.loop-count.g vs c.loop-count.wrapped) _ c.loop-count.count n k (omega (arith, before.some)) (before.value vs k h some)
          (wrap_as _ c.loop-count.count k test items others (c.in_ok-wrapped-2.ensures.value vs k h));
    }

pub returns-clause-value : goal.returns-clause-value
returns-clause-value g c vs k h some fits =
    let reads = g.L.Logic.reads in
    let xs = words_read reads c.args.g.now vs c.args.items.now in
    let long : length xs ≡ length c.args.items.now = simp length-map refl in
    c.loop-count.invariant.value vs k h some ∙ wrap_all xs c.loop-count.count (nat_read reads c.args.g.now vs c.args.len.now) k (omega arith) (omega arith) (omega arith)
