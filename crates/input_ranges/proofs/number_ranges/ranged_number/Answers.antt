use Rattle.std.proofs.Common.{◌≡◌, ◌∙◌, ap, sym, to_z, w32}
use Rattle.std.proofs.lemmas.Int.{to_z-of_z}
use Rattle.bit_words.specs.Words.{int_read}
use Rattle.input_space.specs.Inputs.{is_between}
use Rattle.input_ranges.proofs.Between.{one_number}
use Rattle.input_ranges.proofs.number_ranges.ranged_number.Goals as goal

pub returns-then-low-high-clause-within : goal.returns-then-low-high-clause-within
returns-then-low-high-clause-within g c vs =
    let z = int_read g.L.Logic.reads c.args.g.now vs c.args.word.now in
    let low = to_z-of_z w32 c.args.low c.ranges.low in
    let high = to_z-of_z w32 c.args.high c.ranges.high in
    let same : c.args.low ≡ c.args.high = sym low ∙ ap (to_z w32) c.if-low-high.true ∙ high in
    (rw low at (c.in_ok-known.ensures.within vs)) ∙ one_number c.args.low z ∙ ap (λ h. is_between c.args.low h z) same
