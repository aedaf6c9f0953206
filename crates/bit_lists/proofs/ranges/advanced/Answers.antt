use Rattle.std.proofs.Common.{◌∙◌, ap, sym, arith}
use Rattle.bit_words.specs.Logic.{extends_trans}
use Rattle.bit_words.specs.Words.{int_of}
use Rattle.bit_words.proofs.Kept.{owns_kept, reads_kept}
use Rattle.bit_lists.proofs.Held.{word_as, word_kept}
use Rattle.bit_lists.proofs.Ranging.{alive_as}
use Rattle.bit_lists.proofs.ranges.advanced.Goals as goal

pub add-requires : goal.add-requires
add-requires g c = record { some = c.requires.some; alike = c.requires.step.width; left = c.requires.number; right = c.requires.step.owned }

pub is_before-requires : goal.is_before-requires
is_before-requires g c =
    let one = c.add.ensures.extends in
    let next = c.in_ok-next.ensures.made in
    record {
      some = omega (arith, next.width, c.requires.some);
      to = word_as (sym next.width) (word_kept one c.requires.to);
      step = word_as (sym next.width) (word_kept one c.requires.step);
      number = next.owned;
    }

pub and-requires : goal.and-requires
and-requires g c =
    let until = extends_trans c.add.ensures.extends c.is_before.ensures.extends in
    record { left = until.kept _ c.requires.alive; right = c.in_ok-ahead.ensures.owned }

pub returns-clause-made : goal.returns-clause-made
returns-clause-made g c =
    let next = c.in_ok-next.ensures.made in
    record { owned = owns_kept (extends_trans c.is_before.ensures.extends c.and.ensures.extends) next.owned; width = next.width }

pub returns-clause-number : goal.returns-clause-number
returns-clause-number g c vs h =
    let last = extends_trans c.is_before.ensures.extends c.and.ensures.extends in
    ap int_of (reads_kept last c.in_ok-next.ensures.made.owned vs) ∙ c.in_ok-next.ensures.value vs h

pub returns-clause-alive : goal.returns-clause-alive
returns-clause-alive g c vs =
    let one = c.add.ensures.extends in
    let two = c.is_before.ensures.extends in
    let until = extends_trans one two in
    let last = extends_trans two c.and.ensures.extends in
    alive_as (c.in_ok-alive.ensures.value vs) (until.same _ c.requires.alive vs) (c.in_ok-ahead.ensures.value vs)
    (ap int_of (reads_kept one c.requires.step.owned vs)) (sym (ap int_of (reads_kept last c.in_ok-next.ensures.made.owned vs))) (ap int_of (reads_kept one c.requires.to.owned vs))
