use Rattle.std.proofs.Common.{◌∙◌, ap, sym, arith, length, length-append, ℕ, cond, map}
use Rattle.std.specs.Prelude.{nat_eq}
use Rattle.bit_words.specs.Logic.{extends_trans}
use Rattle.bit_words.specs.Words.{nat_read}
use Rattle.bit_words.proofs.Kept.{owns_read, reads_kept, value_read}
use Rattle.bit_lists.specs.Lists.{word_at, words_read}
use Rattle.bit_lists.proofs.Held.{word_as, word_kept, words_at, words_kept, words_push, words_same}
use Rattle.bit_lists.proofs.Reading.{push_at, read_at}
use Rattle.bit_lists.proofs.choices.with_item.Goals as goal

pub choose_word-requires : goal.choose_word-requires
choose_word-requires g c =
    let needs = c.requires.1.1 in
    let before = c.loop-j.invariant in
    let until = extends_trans c.decoded.ensures.extends before.extends in
    let word = word_kept until needs.1.0 in
    let item = word_kept until (words_at c.loop-j.j needs.1.1 c.at-in-loop-j.ensures) in
    record { test = before.extends.kept _ (owns_read _ c.in_ok-places.ensures.made.owned c.at.ensures); alike = item.width ∙ sym word.width; yes = word.owned; no = item.owned }

pub loop-j-preserved : goal.loop-j-preserved
loop-j-preserved g c =
    let needs = c.requires.1.1 in
    let reads = g.L.Logic.reads in
    let j = c.loop-j.j in
    let before = c.loop-j.invariant in
    let step = c.choose_word.ensures.extends in
    let until = extends_trans c.decoded.ensures.extends before.extends in
    let item = words_at j needs.1.1 c.at-in-loop-j.ensures in
    record {
      extends = extends_trans before.extends step;
      made = words_push (words_kept step before.made) (word_as needs.1.0.width c.in_ok-item.ensures.made) c.in_ok-push.ensures.ok;
      many = ap length c.in_ok-push.ensures.ok ∙ simp (length-append) (omega arith);
      value = λ vs h.
          let f = reads c.args.g.now vs in
          let read = value_read (reads c.decoded.new.g vs) c.in_ok-places.places j _ c.at.ensures in
          let place = c.in_ok-places.ensures.value vs (omega (arith, c.len.ensures, h)) j (omega (arith, c.len.ensures, c.len-j-end.ensures)) in
          let test = before.extends.same _ (owns_read _ c.in_ok-places.ensures.made.owned c.at.ensures) vs ∙ sym read ∙ place in
          let left = reads_kept until needs.1.0.owned vs in
          let right = reads_kept until item.owned vs ∙ sym (read_at f c.args.items.now j _ c.at-in-loop-j.ensures) in
          push_at (reads c.loop-j.g vs) (reads c.choose_word.new.g vs) _ _ _ j
          (λ (k : ℕ). cond (nat_eq k (nat_read reads c.args.g.now vs c.args.number.now)) (map f c.args.word.now) (word_at (words_read reads c.args.g.now vs c.args.items.now) k))
          before.many (words_same step before.made vs) (before.value vs h) (rw (test, left, right) at (c.in_ok-item.ensures.value vs)) c.in_ok-push.ensures.ok;
    }

pub returns-clause-value : goal.returns-clause-value
returns-clause-value g c vs h k l = c.loop-j.invariant.value vs h k (omega (arith, c.len-j-end.ensures, l))
