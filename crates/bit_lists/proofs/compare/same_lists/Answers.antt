use Rattle.std.proofs.Common.{◌≡◌, ◌≤◌, ◌∙◌, ap, sym, arith, refl, length, map, take, ℕ, Bool, true, false, List, eqb, ltb, not, ◌&&◌, ◌||◌}
use Rattle.std.proofs.lemmas.List.{length-map}
use Rattle.bit_words.specs.Logic.{extends_trans}
use Rattle.bit_words.specs.Words.{nat_of, nat_read}
use Rattle.bit_words.proofs.Kept.{reads_kept}
use Rattle.bit_lists.specs.Lists.{word_at, words_read}
use Rattle.bit_lists.proofs.Held.{width_at, words_at, word_kept}
use Rattle.bit_lists.proofs.Everywhere.{every_step, every_zero, same_numbers_all, same_words, width_taken}
use Rattle.bit_lists.proofs.Reading.{read_at}
use Rattle.bit_lists.proofs.compare.same_lists.Goals as goal

and_true : (a b c : Bool) → a ≡ b → c ≡ true → a ≡ (b && c)
and_true a true c e h = e ∙ sym h
and_true a false c e h = e

pub loop-j-init : goal.loop-j-init
loop-j-init g c =
    record {
      extends = c.equal_bits.ensures.extends;
      owned = c.in_ok-alike.ensures.owned;
      value = λ vs.
          let f = g.L.Logic.reads c.args.g.now vs in
          let left = ap (λ (w : List _). eqb (nat_of (map f w)) (nat_of (map f c.as_slice-2.result.now))) c.as_slice.ensures in
          let right = ap (λ (w : List _). eqb (nat_of (map f c.args.a.now.len.now)) (nat_of (map f w))) c.as_slice-2.ensures in
          and_true _ _ _ (c.in_ok-alike.ensures.value vs ∙ left ∙ right) (every_zero _);
    }

pub agrees_at-requires : goal.agrees_at-requires
agrees_at-requires g c =
    let needs = c.requires.1.1 in
    let before = c.loop-j.invariant in
    let first = words_at c.loop-j.j needs.1.0.items_of c.at.ensures in
    let second = words_at c.loop-j.j needs.1.1.items_of c.at-in-loop-j.ensures in
    record {
      small = omega (arith, needs.0);
      alike = second.width ∙ sym first.width;
      len = (word_kept before.extends needs.1.0.length_of).owned;
      left = (word_kept before.extends first).owned;
      right = (word_kept before.extends second).owned;
    }

pub loop-j-preserved : goal.loop-j-preserved
loop-j-preserved g c =
    let needs = c.requires.1.1 in
    let reads = g.L.Logic.reads in
    let before = c.loop-j.invariant in
    let j = c.loop-j.j in
    let one = c.agrees_at.ensures.extends in
    let two = c.and.ensures.extends in
    let first = words_at j needs.1.0.items_of c.at.ensures in
    let second = words_at j needs.1.1.items_of c.at-in-loop-j.ensures in
    record {
      extends = extends_trans before.extends (extends_trans one two);
      owned = c.in_ok-alike-2.ensures.owned;
      value = λ vs.
          let f = reads c.args.g.now vs in
          let left = ap nat_of (reads_kept before.extends first.owned vs ∙ sym (read_at f c.args.a.now.items.now j _ c.at.ensures)) in
          let right = ap nat_of (reads_kept before.extends second.owned vs ∙ sym (read_at f c.args.b.now.items.now j _ c.at-in-loop-j.ensures)) in
          let number = ap nat_of (reads_kept before.extends needs.1.0.length_of.owned vs) in
          let agrees = rw (number, left, right) at (c.in_ok-agrees.ensures.value vs) in
          let alike = one.same _ before.owned vs ∙ before.value vs in
          every_step (λ (k : ℕ). not (ltb k (nat_read reads c.args.g.now vs c.args.a.now.len.now)) || eqb (nat_of (word_at (words_read reads c.args.g.now vs c.args.a.now.items.now) k)) (nat_of (word_at (words_read reads c.args.g.now vs c.args.b.now.items.now) k)))
          _ j _ _ _ (c.in_ok-alike-2.ensures.value vs) alike agrees;
    }

pub returns-clause-characters : goal.returns-clause-characters
returns-clause-characters g c vs proper also =
    let needs = c.requires.1.1 in
    let reads = g.L.Logic.reads in
    let xs = words_read reads c.args.g.now vs c.args.a.now.items.now in
    let ys = words_read reads c.args.g.now vs c.args.b.now.items.now in
    let many : length xs ≡ length c.args.a.now.items.now = simp length-map refl in
    let alike : length ys ≡ length c.args.b.now.items.now = simp length-map refl in
    let same : length c.args.b.now.items.now ≡ length c.args.a.now.items.now = needs.1.1.many in
    let left : nat_read reads c.args.g.now vs c.args.a.now.len.now ≤ length c.args.a.now.items.now = proper in
    let right : nat_read reads c.args.g.now vs c.args.b.now.len.now ≤ length c.args.b.now.items.now = also in
    c.loop-j.invariant.value vs ∙ same_words xs ys _ _ c.loop-j.j (omega arith) (omega arith) (omega arith) (omega arith)

pub returns-clause-numbers : goal.returns-clause-numbers
returns-clause-numbers g c vs some proper also =
    let needs = c.requires.1.1 in
    let reads = g.L.Logic.reads in
    let f = reads c.args.g.now vs in
    let xs = words_read reads c.args.g.now vs c.args.a.now.items.now in
    let ys = words_read reads c.args.g.now vs c.args.b.now.items.now in
    let n = nat_read reads c.args.g.now vs c.args.a.now.len.now in
    let m = nat_read reads c.args.g.now vs c.args.b.now.len.now in
    returns-clause-characters g c vs proper also
    ∙ same_numbers_all g.width (take n xs) (take m ys) some (width_taken g.width n xs (width_at needs.1.0.items_of f)) (width_taken g.width m ys (width_at needs.1.1.items_of f))
