use Rattle.std.proofs.Common.{◌≡◌, ◌≤◌, ◌∙◌, ap, sym, arith, refl, length, map, ℕ, drop}
use Rattle.std.proofs.lemmas.List.{length-map}
use Rattle.mpy_tree.specs.Operations.{is_front}
use Rattle.bit_words.specs.Logic.{extends_refl, extends_trans}
use Rattle.bit_words.specs.Words.{nat_of, nat_read}
use Rattle.bit_words.proofs.Kept.{reads_kept}
use Rattle.bit_lists.specs.Lists.{list_read, words_read}
use Rattle.bit_lists.proofs.Everywhere.{some_step, some_zero}
use Rattle.bit_lists.proofs.Ends.{list_kept}
use Rattle.bit_lists.proofs.Held.{words_same}
use Rattle.bit_lists.proofs.Joining.{length_taken}
use Rattle.bit_lists.proofs.Within.{front_later, part_within}
use Rattle.bit_lists.proofs.parts.has_part.Goals as goal

pub loop-j-init : goal.loop-j-init
loop-j-init g c = record { extends = extends_refl; owned = c.constant-found.ensures.owned; value = λ vs h l. c.constant-found.ensures.value vs ∙ sym (some_zero _) }

pub front_at-requires : goal.front_at-requires
front_at-requires g c κs h =
    let needs = c.requires.1.1 in
    let before = c.loop-j.invariant in
    (h.0, (h.1, (needs.1.0, (list_kept before.extends needs.1.1.0, (list_kept before.extends needs.1.1.1, omega arith)))))

pub loop-j-preserved : goal.loop-j-preserved
loop-j-preserved g c =
    let needs = c.requires.1.1 in
    let reads = g.L.Logic.reads in
    let before = c.loop-j.invariant in
    let j = c.loop-j.j in
    let one = c.front_at.ensures.extends in
    let two = c.or.ensures.extends in
    record {
      extends = extends_trans before.extends (extends_trans one two);
      owned = c.in_ok-found.ensures.owned;
      value = λ vs h l.
          let part_len = ap nat_of (reads_kept before.extends needs.1.1.0.length_of.owned vs) in
          let text_len = ap nat_of (reads_kept before.extends needs.1.1.1.length_of.owned vs) in
          let part = words_same before.extends needs.1.1.0.items_of vs in
          let text = words_same before.extends needs.1.1.1.items_of vs in
          let proper : nat_read reads c.loop-j.g vs c.args.part.now.len.now ≤ length c.args.part.now.items.now = omega (arith, part_len, h) in
          let also : nat_read reads c.loop-j.g vs c.args.text.now.len.now ≤ length c.args.text.now.items.now = omega (arith, text_len, l) in
          let here = front_later j part_len text_len part text (c.in_ok-here.ensures.value vs proper also) in
          let found = one.same _ before.owned vs ∙ before.value vs h l in
          some_step (λ (s : ℕ). is_front (map nat_of (list_read reads c.args.g.now vs c.args.part.now.len.now c.args.part.now.items.now)) (drop s (map nat_of (list_read reads c.args.g.now vs c.args.text.now.len.now c.args.text.now.items.now))))
          j _ _ _ (c.in_ok-found.ensures.value vs) found here;
    }

pub returns-clause-value : goal.returns-clause-value
returns-clause-value g c vs proper also =
    let needs = c.requires.1.1 in
    let reads = g.L.Logic.reads in
    let ys = words_read reads c.args.g.now vs c.args.text.now.items.now in
    let long : length ys ≡ length c.args.text.now.items.now = simp length-map refl in
    let right : nat_read reads c.args.g.now vs c.args.text.now.len.now ≤ length c.args.text.now.items.now = also in
    let taken = length_taken (nat_read reads c.args.g.now vs c.args.text.now.len.now) ys (omega arith) in
    let size : length (map nat_of (list_read reads c.args.g.now vs c.args.text.now.len.now c.args.text.now.items.now)) ≡ nat_read reads c.args.g.now vs c.args.text.now.len.now = simp length-map taken in
    c.loop-j.invariant.value vs proper also ∙ part_within _ _ c.loop-j.j (omega (arith, needs.0)) (omega (arith, needs.1.1.1.many))
