use Rattle.std.proofs.Common.{◌∙◌, ◌&&◌, ap}
use Rattle.std.specs.Prelude.{nat_le}
use Rattle.bit_words.specs.Words.{nat_read}
use Rattle.input_ranges.proofs.Between.{one_length}
use Rattle.input_ranges.proofs.length_ranges.ranged_length.Goals as goal

pub returns-then-least-most-clause-within : goal.returns-then-least-most-clause-within
returns-then-least-most-clause-within g c vs =
    let n = nat_read g.L.Logic.reads c.args.g.now vs c.args.len.now in
    c.in_ok-known.ensures.within vs ∙ one_length c.args.least n ∙ ap (λ m. nat_le c.args.least n && nat_le n m) c.if-least-most.true
