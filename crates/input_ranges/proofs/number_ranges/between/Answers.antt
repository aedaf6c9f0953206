use Rattle.std.proofs.Common.{◌∙◌, ap, map, not, w32}
use Rattle.std.specs.Int.Signed.{lt_z}
use Rattle.std.proofs.lemmas.Int.{to_z-of_z}
use Rattle.bit_words.specs.Words.{int_of, int_read}
use Rattle.bit_words.proofs.Kept.{reads_kept}
use Rattle.input_ranges.proofs.Between.{and_same, tested}
use Rattle.input_ranges.proofs.number_ranges.between.Goals as goal

pub returns-clause-value : goal.returns-clause-value
returns-clause-value g c vs =
    let reads = g.L.Logic.reads in
    let z = int_read reads c.args.g.now vs c.args.word.now in
    let width = c.len-width.ensures in
    let low = (rw (to_z-of_z w32 c.args.low c.ranges.low, width) at (c.in_ok-least.ensures.value vs)) c.requires.low in
    let high = (rw (to_z-of_z w32 c.args.high c.ranges.high, width) at (c.in_ok-most.ensures.value vs)) c.requires.high in
    let kept = reads_kept c.less.ensures.extends c.requires.owned vs in
    let below = c.in_ok-below.ensures.value vs ∙ ap (lt_z z) low in
    let above = c.in_ok-above.ensures.value vs ∙ ap (λ y. lt_z y (int_of (map (reads c.less.new.g vs) c.args.word.now))) high ∙ ap (λ w. lt_z c.args.high (int_of w)) kept in
    let still = c.less-2.ensures.extends.same c.not-not_below.result c.not-not_below.ensures.owned vs in
    c.in_ok-inside.ensures.value vs
    ∙ and_same _ _ _ _ (still ∙ c.not-not_below.ensures.value vs ∙ ap not below) (c.not-not_above.ensures.value vs ∙ ap not above)
    ∙ tested c.args.low c.args.high z
