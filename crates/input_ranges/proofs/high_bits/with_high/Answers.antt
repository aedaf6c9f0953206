use Rattle.std.proofs.Common.{◌∙◌, map, ap, sym}
use Rattle.std.proofs.lemmas.List.{drop-map}
use Rattle.std.specs.List.{list_all}
use Rattle.bit_words.proofs.Kept.{reads_kept}
use Rattle.input_ranges.specs.Bits.{is_bit}
use Rattle.input_ranges.proofs.HighBits.{high_right, high_slice, owns_filled}
use Rattle.input_ranges.proofs.high_bits.with_high.Goals as goal

pub returns-clause-within : goal.returns-clause-within
returns-clause-within g c vs =
    let f = g.L.Logic.reads c.args.g.now vs in
    c.in_ok-within.ensures.value vs
    ∙ ap (λ w. list_all (is_bit (f c.args.high)) (map f w)) (high_slice c.args.digits c.args.bits.now)
    ∙ ap (list_all (is_bit (f c.args.high))) (sym (drop-map f c.args.digits c.args.bits.now))

pub returns-clause-same : goal.returns-clause-same
returns-clause-same g c vs h =
    let f = g.L.Logic.reads c.args.g.now vs in
    let tested = c.in_ok-within.ensures.value vs
    ∙ ap (λ w. list_all (is_bit (f c.args.high)) (map f w)) (high_slice c.args.digits c.args.bits.now)
    ∙ ap (list_all (is_bit (f c.args.high))) (sym (drop-map f c.args.digits c.args.bits.now)) in
    reads_kept c.all_are.ensures.extends (owns_filled c.args.digits c.requires.owned c.requires.high c.in_ok-bits.ensures) vs
    ∙ high_right f c.args.bits.now c.in_ok-bits.bits c.args.digits c.args.high c.in_ok-bits.ensures (sym tested ∙ h)
