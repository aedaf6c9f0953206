use Rattle.std.proofs.Common.{◌∙◌, ap, arith}
use Rattle.std.specs.Prelude.{ℤ}
use Rattle.bit_words.specs.Words.{int_read, nat_of, nat_read}
use Rattle.bit_words.proofs.Kept.{reads_kept}
use Rattle.bit_lists.specs.Places.{from_front}
use Rattle.bit_lists.specs.Slices.{clamp}
use Rattle.bit_lists.proofs.Held.{word_kept}
use Rattle.bit_lists.proofs.slices.clamped_place.Goals as goal

pub clamped-requires : goal.clamped-requires
clamped-requires g c =
    let spot = c.in_ok-spot.ensures.made in
    record { wide = omega (arith, spot.width, c.requires.some); number = spot.owned; limit = word_kept c.place.ensures.extends c.requires.limit }

pub returns-clause-value : goal.returns-clause-value
returns-clause-value g c vs =
    let reads = g.L.Logic.reads in
    let limit = ap nat_of (reads_kept c.place.ensures.extends c.requires.limit.owned vs) in
    c.in_ok-end.ensures.value vs ∙ ap (λ (z : ℤ). clamp z (nat_read reads c.place.new.g vs c.args.limit.now)) (c.in_ok-spot.ensures.value vs)
    ∙ ap (clamp (from_front (int_read reads c.args.g.now vs c.args.index.now) (nat_read reads c.args.g.now vs c.args.len.now))) limit
