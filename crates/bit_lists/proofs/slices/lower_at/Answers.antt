use Rattle.std.proofs.Common.{◌∙◌, ap}
use Rattle.bit_words.specs.Words.{int_read, nat_read}
use Rattle.bit_lists.specs.Places.{from_front}
use Rattle.bit_lists.specs.Slices.{clamp}
use Rattle.bit_lists.proofs.slices.lower_at.Goals as goal

pub returns-clause-value : goal.returns-clause-value
returns-clause-value g c vs =
    let reads = g.L.Logic.reads in
    c.in_ok-end.ensures.value vs ∙ ap (clamp (from_front (int_read reads c.args.g.now vs c.args.index.now) (nat_read reads c.args.g.now vs c.args.len.now))) (c.in_ok-most.ensures.value vs)
