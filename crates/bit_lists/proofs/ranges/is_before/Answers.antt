use Rattle.std.proofs.Common.{◌∙◌, ap, sym, arith, List}
use Rattle.bit_words.specs.Logic.{extends_trans}
use Rattle.bit_words.specs.Words.{int_of, int_read, is_negative}
use Rattle.bit_words.proofs.Kept.{owns_kept, reads_kept}
use Rattle.bit_lists.proofs.Ranging.{before_as, less_later}
use Rattle.bit_lists.proofs.ranges.is_before.Goals as goal

pub less-requires : goal.less-requires
less-requires g c = record { some = c.requires.some; alike = c.requires.to.width; left = c.requires.number; right = c.requires.to.owned }

pub less-requires-2 : goal.less-requires-2
less-requires-2 g c =
    let one = c.less.ensures.extends in
    record {
      some = omega (arith, c.requires.some, c.requires.to.width);
      alike = sym c.requires.to.width;
      left = owns_kept one c.requires.to.owned;
      right = owns_kept one c.requires.number;
    }

pub sign_of-falls-requires : goal.sign_of-falls-requires
sign_of-falls-requires g c =
    let until = extends_trans c.less.ensures.extends c.less-2.ensures.extends in
    record { some = omega (arith, c.requires.some, c.requires.step.width); word = owns_kept until c.requires.step.owned }

pub choose-requires : goal.choose-requires
choose-requires g c = record { test = c.sign_of-falls.ensures.owned; yes = c.in_ok-down.ensures.owned; no = c.less-2.ensures.extends.kept _ c.in_ok-up.ensures.owned }

pub returns-clause-value : goal.returns-clause-value
returns-clause-value g c vs =
    let one = c.less.ensures.extends in
    let two = c.less-2.ensures.extends in
    let until = extends_trans one two in
    let falls = c.sign_of-falls.ensures.value vs ∙ ap (λ (w : List _). is_negative (int_of w)) (reads_kept until c.requires.step.owned vs) in
    let up = two.same _ c.in_ok-up.ensures.owned vs ∙ c.in_ok-up.ensures.value vs ∙ less_later (sym (ap int_of (reads_kept one c.requires.number vs))) (sym (ap int_of (reads_kept one c.requires.to.owned vs))) in
    before_as (int_read g.L.Logic.reads c.args.g.now vs c.args.course.now.step) (c.in_ok-ahead.ensures.value vs) falls up (c.in_ok-down.ensures.value vs) (ap int_of (reads_kept one c.requires.number vs)) (ap int_of (reads_kept one c.requires.to.owned vs))
