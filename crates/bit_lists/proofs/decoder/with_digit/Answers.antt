use Rattle.std.proofs.Common.{◌∙◌, ◌+◌, ◌/◌, ap, sym, arith, length, length-append, eqb, ℕ, false}
use Rattle.bit_words.specs.Logic.{extends_trans}
use Rattle.bit_words.specs.Words.{bit_value}
use Rattle.bit_words.proofs.Kept.{owns_kept, owns_push, owns_read, reads_kept, value_read}
use Rattle.bit_lists.proofs.Decoding.{lowest_as}
use Rattle.bit_lists.proofs.Reading.{push_read}
use Rattle.bit_lists.proofs.decoder.with_digit.Goals as goal

pub with_lowest-requires : goal.with_lowest-requires
with_lowest-requires g c =
    let before = c.loop-j.invariant.extends in
    record { within = omega arith; half = before.kept _ (owns_read _ c.requires.halves.owned c.at-half.ensures); digit = before.kept _ c.requires.digit }

pub loop-j-preserved : goal.loop-j-preserved
loop-j-preserved g c =
    let reads = g.L.Logic.reads in
    let j = c.loop-j.j in
    let before = c.loop-j.invariant in
    let step = c.with_lowest.ensures.extends in
    record {
      extends = extends_trans before.extends step;
      owned = owns_push (owns_kept step before.owned) c.in_ok-bit.ensures.owned c.in_ok-push.ensures.ok;
      many = ap length c.in_ok-push.ensures.ok ∙ simp (length-append) (omega (arith, before.many));
      value = λ vs n halves small.
          let f = reads c.args.g.now vs in
          let digit = before.extends.same _ c.requires.digit vs in
          let half = before.extends.same _ (owns_read _ c.requires.halves.owned c.at-half.ensures) vs ∙ sym (value_read f c.args.halves.now _ _ c.at-half.ensures) ∙ halves (omega arith) (j / 2) (omega arith) in
          push_read (reads c.loop-j.g vs) (reads c.with_lowest.new.g vs) false _ _ _ j (λ (k : ℕ). eqb k (bit_value (f c.args.digit) + (n + n))) before.many (reads_kept step before.owned vs) (before.value vs n halves small)
          (lowest_as j c.args.count n digit (c.in_ok-bit.ensures.value vs n) small half) c.in_ok-push.ensures.ok;
    }

pub returns-clause-value : goal.returns-clause-value
returns-clause-value g c vs n halves small k h = c.loop-j.invariant.value vs n halves small k (omega arith)
