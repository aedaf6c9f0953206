use Rattle.std.proofs.Common.{◌≡◌, ◌∙◌, ap, sym, arith, refl, length, map, ℕ, eqb, ltb, ◌&&◌}
use Rattle.std.proofs.lemmas.List.{length-map}
use Rattle.bit_words.specs.Logic.{extends_refl, extends_trans}
use Rattle.bit_words.specs.Words.{nat_of, nat_read}
use Rattle.bit_words.proofs.Kept.{owns_kept, reads_kept}
use Rattle.bit_lists.specs.Lists.{word_at, words_read}
use Rattle.bit_lists.proofs.Held.{words_at, width_at, word_kept}
use Rattle.bit_lists.proofs.Everywhere.{some_step, some_zero, word_within}
use Rattle.bit_lists.proofs.Reading.{read_at}
use Rattle.bit_lists.proofs.compare.has_word.Goals as goal

pub loop-j-init : goal.loop-j-init
loop-j-init g c = record { extends = extends_refl; owned = c.constant-found.ensures.owned; value = λ vs. c.constant-found.ensures.value vs ∙ sym (some_zero _) }

pub found_at-requires : goal.found_at-requires
found_at-requires g c =
    let before = c.loop-j.invariant in
    let item = words_at c.loop-j.j c.requires.list.items_of c.at.ensures in
    record {
      small = omega arith;
      alike = item.width;
      len = (word_kept before.extends c.requires.list.length_of).owned;
      left = owns_kept before.extends c.requires.word;
      right = (word_kept before.extends item).owned;
    }

pub loop-j-preserved : goal.loop-j-preserved
loop-j-preserved g c =
    let reads = g.L.Logic.reads in
    let before = c.loop-j.invariant in
    let j = c.loop-j.j in
    let one = c.found_at.ensures.extends in
    let two = c.or.ensures.extends in
    let item = words_at j c.requires.list.items_of c.at.ensures in
    record {
      extends = extends_trans before.extends (extends_trans one two);
      owned = c.in_ok-found.ensures.owned;
      value = λ vs.
          let f = reads c.args.g.now vs in
          let left = ap nat_of (reads_kept before.extends c.requires.word vs) in
          let right = ap nat_of (reads_kept before.extends item.owned vs ∙ sym (read_at f c.args.a.now.items.now j _ c.at.ensures)) in
          let number = ap nat_of (reads_kept before.extends c.requires.list.length_of.owned vs) in
          let here = rw (number, left, right) at (c.in_ok-here.ensures.value vs) in
          let found = one.same _ before.owned vs ∙ before.value vs in
          some_step (λ (k : ℕ). ltb k (nat_read reads c.args.g.now vs c.args.a.now.len.now) && eqb (nat_read reads c.args.g.now vs c.args.word.now) (nat_of (word_at (words_read reads c.args.g.now vs c.args.a.now.items.now) k)))
          j _ _ _ (c.in_ok-found.ensures.value vs) found here;
    }

pub returns-clause-value : goal.returns-clause-value
returns-clause-value g c vs =
    let reads = g.L.Logic.reads in
    let f = reads c.args.g.now vs in
    let xs = words_read reads c.args.g.now vs c.args.a.now.items.now in
    let z = map f c.args.word.now in
    let many : length xs ≡ length c.args.a.now.items.now = simp length-map refl in
    let wide : length z ≡ length c.args.word.now = simp length-map refl in
    c.loop-j.invariant.value vs ∙ word_within z xs _ c.loop-j.j (omega arith) (omega arith) (λ k h. width_at c.requires.list.items_of f k h ∙ sym wide)
