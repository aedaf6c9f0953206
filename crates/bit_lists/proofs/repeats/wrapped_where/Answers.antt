use Rattle.std.proofs.Common.{◌∙◌, ap, sym, arith, length, length-append, ℕ, cond, ◌%◌}
use Rattle.bit_words.specs.Logic.{extends_trans}
use Rattle.bit_words.proofs.Kept.{reads_kept}
use Rattle.bit_lists.specs.Lists.{word_at, words_read}
use Rattle.bit_lists.proofs.Held.{word_as, words_at, words_kept, words_push, words_same}
use Rattle.bit_lists.proofs.Reading.{push_at, read_at}
use Rattle.bit_lists.proofs.repeats.wrapped_where.Goals as goal

pub loop-j-preserved : goal.loop-j-preserved
loop-j-preserved g c =
    let needs = c.requires.1.1 in
    let reads = g.L.Logic.reads in
    let j = c.loop-j.j in
    let before = c.loop-j.invariant in
    let one = c.choose_word.ensures.extends in
    let first = words_at (j % c.args.lap.count) needs.1.1.1.1.0 c.at.ensures in
    let second = words_at j needs.1.1.1.1.1 c.at-in-loop-j.ensures in
    record {
      extends = extends_trans before.extends one;
      made = words_push (words_kept one before.made) (word_as first.width c.in_ok-word.ensures.made) c.in_ok-push.ensures.ok;
      many = ap length c.in_ok-push.ensures.ok ∙ simp (length-append) (omega arith);
      value = λ vs.
          let f = reads c.args.g.now vs in
          let test = before.extends.same _ needs.1.1.1.0 vs in
          let left = reads_kept before.extends first.owned vs ∙ sym (read_at f c.args.items.now _ _ c.at.ensures) in
          let right = reads_kept before.extends second.owned vs ∙ sym (read_at f c.args.others.now j _ c.at-in-loop-j.ensures) in
          push_at (reads c.loop-j.g vs) (reads c.choose_word.new.g vs) _ _ _ j
          (λ (k : ℕ). cond (reads c.args.g.now vs c.args.lap.here) (word_at (words_read reads c.args.g.now vs c.args.items.now) (k % c.args.lap.count)) (word_at (words_read reads c.args.g.now vs c.args.others.now) k))
          before.many (words_same one before.made vs) (before.value vs) (rw (test, left, right) at (c.in_ok-word.ensures.value vs)) c.in_ok-push.ensures.ok;
    }
