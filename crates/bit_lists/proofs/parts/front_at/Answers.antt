use Rattle.std.proofs.Common.{◌≡◌, ◌+◌, ◌≤◌, ◌∙◌, ap, sym, arith, refl, length, ℕ, not, ◌||◌, ◌&&◌, eqb, ltb, true}
use Rattle.std.proofs.lemmas.List.{length-map}
use Rattle.bit_words.specs.Logic.{extends_refl, extends_trans}
use Rattle.bit_words.specs.Words.{nat_of, nat_read}
use Rattle.bit_words.proofs.Kept.{reads_kept}
use Rattle.bit_lists.specs.Lists.{word_at, words_read}
use Rattle.bit_lists.proofs.Everywhere.{every_step, every_zero}
use Rattle.bit_lists.proofs.Ends.{list_kept}
use Rattle.bit_lists.proofs.Held.{words_same}
use Rattle.bit_lists.proofs.Within.{agrees_later, front_from}
use Rattle.bit_lists.proofs.parts.front_at.Goals as goal

pub loop-j-init : goal.loop-j-init
loop-j-init g c = record { extends = extends_refl; owned = c.constant-front.ensures.owned; value = λ vs h. c.constant-front.ensures.value vs ∙ sym (every_zero _) }

pub agrees_from-requires : goal.agrees_from-requires
agrees_from-requires g c κs h =
    let needs = c.requires.1.1 in
    let before = c.loop-j.invariant in
    (h.0, (h.1, (needs.0, (list_kept before.extends needs.1.0, (list_kept before.extends needs.1.1.0, (needs.1.1.1, omega arith))))))

pub loop-j-preserved : goal.loop-j-preserved
loop-j-preserved g c =
    let needs = c.requires.1.1 in
    let reads = g.L.Logic.reads in
    let before = c.loop-j.invariant in
    let j = c.loop-j.j in
    let one = c.agrees_from.ensures.extends in
    let two = c.and.ensures.extends in
    record {
      extends = extends_trans before.extends (extends_trans one two);
      owned = c.in_ok-front.ensures.owned;
      value = λ vs h.
          let part_len = ap nat_of (reads_kept before.extends needs.1.0.length_of.owned vs) in
          let text_len = ap nat_of (reads_kept before.extends needs.1.1.0.length_of.owned vs) in
          let part = words_same before.extends needs.1.0.items_of vs in
          let text = words_same before.extends needs.1.1.0.items_of vs in
          let proper : nat_read reads c.loop-j.g vs c.args.text.now.len.now ≤ length c.args.text.now.items.now = omega (arith, text_len, h) in
          let here = agrees_later j c.args.start part_len text_len part text (c.in_ok-agrees.ensures.value vs proper) in
          let front = one.same _ before.owned vs ∙ before.value vs h in
          every_step (λ (k : ℕ). not (ltb k (nat_read reads c.args.g.now vs c.args.part.now.len.now))
          || (ltb (c.args.start + k) (nat_read reads c.args.g.now vs c.args.text.now.len.now) && eqb (nat_of (word_at (words_read reads c.args.g.now vs c.args.part.now.items.now) k)) (nat_of (word_at (words_read reads c.args.g.now vs c.args.text.now.items.now) (c.args.start + k)))))
          true j _ _ _ (c.in_ok-front.ensures.value vs) front here;
    }

pub returns-clause-value : goal.returns-clause-value
returns-clause-value g c vs proper also =
    let needs = c.requires.1.1 in
    let reads = g.L.Logic.reads in
    let xs = words_read reads c.args.g.now vs c.args.part.now.items.now in
    let ys = words_read reads c.args.g.now vs c.args.text.now.items.now in
    let long : length xs ≡ length c.args.part.now.items.now = simp length-map refl in
    let also_long : length ys ≡ length c.args.text.now.items.now = simp length-map refl in
    let left : nat_read reads c.args.g.now vs c.args.part.now.len.now ≤ length c.args.part.now.items.now = proper in
    let right : nat_read reads c.args.g.now vs c.args.text.now.len.now ≤ length c.args.text.now.items.now = also in
    c.loop-j.invariant.value vs also ∙ front_from xs ys _ _ c.args.start c.loop-j.j (omega arith) (omega (arith, needs.1.1.0.many)) (omega arith) (omega arith)
