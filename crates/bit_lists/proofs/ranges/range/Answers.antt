use Rattle.std.proofs.Common.{◌≡◌, ◌<◌, ◌+◌, ◌-◌, ◌∙◌, ap, sym, arith, length}
use Rattle.bit_words.specs.Logic.{extends_trans}
use Rattle.bit_words.specs.Words.{fits, int_of}
use Rattle.bit_words.proofs.Decided.{read_fits}
use Rattle.bit_words.proofs.Kept.{owns_kept, reads_kept}
use Rattle.bit_lists.proofs.Held.{word_as, word_kept, words_as}
use Rattle.bit_lists.proofs.Ranging.{before_later, range_as}
use Rattle.mpy_tree.specs.Operations.{is_zero}
use Rattle.bit_lists.proofs.ranges.range.Goals as goal

pub longer-requires-2 : goal.longer-requires-2
longer-requires-2 g c =
    let to = c.requires.to in
    record { some = omega (arith, to.width, c.requires.some); few = omega (arith, to.width, c.requires.short); word = owns_kept c.longer.ensures.extends to.owned }

pub longer-requires-3 : goal.longer-requires-3
longer-requires-3 g c =
    let step = c.requires.step in
    let until = extends_trans c.longer.ensures.extends c.longer-2.ensures.extends in
    record { some = omega (arith, step.width, c.requires.some); few = omega (arith, step.width, c.requires.short); word = owns_kept until step.owned }

pub is_before-requires : goal.is_before-requires
is_before-requires g c =
    let number = word_kept (extends_trans c.longer-2.ensures.extends c.longer-3.ensures.extends) c.in_ok-number.ensures.made in
    let to = word_kept c.longer-3.ensures.extends c.in_ok-to.ensures.made in
    let step = c.in_ok-step.ensures.made in
    record {
      some = omega (arith, number.width);
      to = record { owned = to.owned; width = omega (arith, to.width, number.width, c.requires.to.width) };
      step = record { owned = step.owned; width = omega (arith, step.width, number.width, c.requires.step.width) };
      number = number.owned;
    }

pub listed-requires : goal.listed-requires
listed-requires g c κs h =
    let last = c.is_before.ensures.extends in
    let number = word_kept (extends_trans (extends_trans c.longer-2.ensures.extends c.longer-3.ensures.extends) last) c.in_ok-number.ensures.made in
    let to = word_kept (extends_trans c.longer-3.ensures.extends last) c.in_ok-to.ensures.made in
    let step = word_kept last c.in_ok-step.ensures.made in
    let wide : length c.in_ok-number.number - 1 + 1 ≡ length c.args.ends.now.from.now + 1 = omega (arith, number.width) in (
      h.0,
      (
        h.1,
        (
          omega (arith, number.width, c.requires.some),
          (
            c.requires.few,
            (
              word_as (sym wide) number,
              (record { owned = to.owned; width = omega (arith, to.width, c.requires.to.width, wide) }, (record { owned = step.owned; width = omega (arith, step.width, c.requires.step.width, wide) }, c.in_ok-alive.ensures.owned)),
            ),
          ),
        ),
      ),
    )

pub returns-clause-made : goal.returns-clause-made
returns-clause-made g c =
    let made = c.in_ok-numbers.ensures.made in
    let wide : length c.in_ok-number.number - 1 ≡ length c.args.ends.now.from.now = omega (arith, c.in_ok-number.ensures.made.width) in
    record { length_of = made.length_of; items_of = words_as wide made.items_of; many = made.many }

pub returns-clause-value : goal.returns-clause-value
returns-clause-value g c vs some =
    let reads = g.L.Logic.reads in
    let f = reads c.args.g.now vs in
    let one = c.longer.ensures.extends in
    let two = c.longer-2.ensures.extends in
    let three = c.longer-3.ensures.extends in
    let last = c.is_before.ensures.extends in
    let width = length c.in_ok-number.number - 1 in
    let wide : length c.args.ends.now.from.now ≡ width = omega (arith, c.in_ok-number.ensures.made.width) in
    let some_width : 0 < width = omega (arith, c.requires.some, wide) in
    let behind = extends_trans two three in
    let number_then = ap int_of (reads_kept behind c.in_ok-number.ensures.made.owned vs) ∙ c.in_ok-number.ensures.value vs in
    let to_first = c.in_ok-to.ensures.value vs ∙ ap int_of (reads_kept one c.requires.to.owned vs) in
    let to_then = ap int_of (reads_kept three c.in_ok-to.ensures.made.owned vs) ∙ to_first in
    let step_then = c.in_ok-step.ensures.value vs ∙ ap int_of (reads_kept (extends_trans one two) c.requires.step.owned vs) in
    let number_last = ap int_of (reads_kept last (owns_kept behind c.in_ok-number.ensures.made.owned) vs) in
    let to_last = ap int_of (reads_kept last (owns_kept three c.in_ok-to.ensures.made.owned) vs) in
    let step_last = ap int_of (reads_kept last c.in_ok-step.ensures.made.owned vs) in
    let number = number_last ∙ number_then in
    let to = to_last ∙ to_then in
    let step = step_last ∙ step_then in
    let from_fits = ap (fits width) number ∙ read_fits f c.args.ends.now.from.now width wide some_width in
    let to_fits = ap (fits width) to ∙ read_fits f c.args.ends.now.to.now width (c.requires.to.width ∙ wide) some_width in
    let step_fits = ap (fits width) step ∙ read_fits f c.args.ends.now.step.now width (c.requires.step.width ∙ wide) some_width in
    let alive = c.in_ok-alive.ensures.value vs ∙ before_later (sym step_last) (sym number_last) (sym to_last) in
    range_as c.args.cap _ _ number to step (c.in_ok-numbers.ensures.value vs (ap is_zero step ∙ some) from_fits to_fits step_fits alive)
