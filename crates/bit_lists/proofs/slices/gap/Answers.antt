use Rattle.std.proofs.Common.{◌≡◌, ◌∙◌, ap, arith, List, length}
use Rattle.std.specs.Prelude.{ℤ, pos, ◌-ℤ◌}
use Rattle.bit_words.specs.Words.{int_of, int_read, nat_of, nat_read}
use Rattle.bit_words.proofs.Integers.{nat_read_below}
use Rattle.bit_words.proofs.Kept.{reads_kept}
use Rattle.bit_lists.specs.Slices.{clamp}
use Rattle.bit_lists.proofs.Cutting.{gap_fits, gap_is}
use Rattle.bit_lists.proofs.Held.{word_kept}
use Rattle.bit_lists.proofs.Indexes.{holds_as}
use Rattle.bit_lists.proofs.slices.gap.Goals as goal

pub wide_length-requires-2 : goal.wide_length-requires-2
wide_length-requires-2 g c = record { wide = omega arith; len = word_kept c.wide_length.ensures.extends c.requires.low }

pub sub-requires : goal.sub-requires
sub-requires g c =
    let above = word_kept c.wide_length-2.ensures.extends c.in_ok-above.ensures.made in
    let below = c.in_ok-below.ensures.made in
    record { some = omega (arith, above.width); alike = omega (arith, above.width, below.width); left = above.owned; right = below.owned }

pub clamped-requires : goal.clamped-requires
clamped-requires g c =
    let above = c.in_ok-above.ensures.made in
    let number = c.in_ok-difference.ensures.made in
    record { wide = omega (arith, number.width, above.width); number = number.owned; limit = c.in_ok-most.ensures.made }

pub returns-clause-value : goal.returns-clause-value
returns-clause-value g c vs =
    let reads = g.L.Logic.reads in
    let f = reads c.args.g.now vs in
    let one = c.wide_length.ensures.extends in
    let two = c.wide_length-2.ensures.extends in
    let u = nat_read reads c.args.g.now vs c.args.high.now in
    let l = nat_read reads c.args.g.now vs c.args.low.now in
    let above = ap int_of (reads_kept two c.in_ok-above.ensures.made.owned vs) ∙ c.in_ok-above.ensures.value vs in
    let below = c.in_ok-below.ensures.value vs ∙ ap (λ (w : List _). pos (nat_of w)) (reads_kept one c.requires.low.owned vs) in
    let both : int_read reads c.wide_length-2.new.g vs c.in_ok-above.above -ℤ int_read reads c.wide_length-2.new.g vs c.in_ok-below.below ≡ pos (nat_read reads c.args.g.now vs c.args.high.now) -ℤ pos (nat_read reads c.args.g.now vs c.args.low.now) =
    ap (λ (z : ℤ). z -ℤ int_read reads c.wide_length-2.new.g vs c.in_ok-below.below) above ∙ ap (λ (z : ℤ). pos (nat_read reads c.args.g.now vs c.args.high.now) -ℤ z) below in
    let small = nat_read_below f c.args.high.now 5 c.requires.high.width in
    let also = nat_read_below f c.args.low.now 5 c.requires.low.width in
    let difference = holds_as _ _ _ (length c.in_ok-above.above) 6 (c.in_ok-difference.ensures.value vs) both c.in_ok-above.ensures.made.width (gap_fits u l small also) in
    c.in_ok-number.ensures.value vs
    ∙ ap (clamp (int_read reads c.sub.new.g vs c.in_ok-difference.difference.word)) (c.in_ok-most.ensures.value vs)
    ∙ ap (λ (z : ℤ). clamp z 31) difference ∙ gap_is u l small
