use Rattle.std.proofs.Common.{◌∙◌, ap, arith}
use Rattle.std.specs.Prelude.{ℤ}
use Rattle.bit_words.specs.Words.{int_read}
use Rattle.bit_lists.specs.Slices.{clamp}
use Rattle.bit_lists.proofs.Repeating.{times_is}
use Rattle.bit_lists.proofs.repeats.times_of.Goals as goal

pub clamped-requires : goal.clamped-requires
clamped-requires g c =
    let wide = c.in_ok-wide.ensures.made in
    record { wide = omega (arith, wide.width, c.requires.some); number = wide.owned; limit = c.in_ok-most.ensures.made }

pub returns-clause-value : goal.returns-clause-value
returns-clause-value g c vs =
    let reads = g.L.Logic.reads in
    c.in_ok-times.ensures.value vs ∙ ap (clamp (int_read reads c.wide_index.new.g vs c.in_ok-wide.wide)) (c.in_ok-most.ensures.value vs)
    ∙ ap (λ (z : ℤ). clamp z 31) (c.in_ok-wide.ensures.value vs) ∙ times_is _
