use Rattle.std.proofs.Common.{◌∙◌, ap, arith, map, List}
use Rattle.std.specs.Prelude.{pos}
use Rattle.bit_lists.proofs.Indexes.{length_fits}
use Rattle.bit_words.specs.Words.{nat_of}
use Rattle.bit_words.proofs.Integers.{nat_read_below}
use Rattle.bit_lists.proofs.places.wide_length.Goals as goal

pub returns-clause-value : goal.returns-clause-value
returns-clause-value g c vs =
    let f = g.L.Logic.reads c.args.g.now vs in
    let number = ap (λ (w : List _). nat_of (map f w)) c.as_slice.ensures in
    let small = nat_read_below f c.args.len.now 5 c.requires.len.width in
    c.in_ok-number.ensures.value vs (length_fits _ c.args.width (omega (arith, number, small)) c.requires.wide) ∙ ap pos number

pub returns-clause-made : goal.returns-clause-made
returns-clause-made g c = record { owned = c.in_ok-number.ensures.made.owned; width = c.in_ok-number.ensures.made.width }
