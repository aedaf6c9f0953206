use Rattle.std.proofs.Common.{◌∙◌, ◌+◌, ap, not}
use Rattle.std.specs.Prelude.{nat_lt}
use Rattle.bit_words.specs.Words.{nat_of, nat_read}
use Rattle.bit_words.proofs.Kept.{reads_kept}
use Rattle.input_ranges.proofs.Between.{and_same, lengths_tested}
use Rattle.input_ranges.proofs.length_ranges.between.Goals as goal

pub returns-clause-value : goal.returns-clause-value
returns-clause-value g c vs =
    let reads = g.L.Logic.reads in
    let n = nat_read reads c.args.g.now vs c.args.len.now in
    let kept = reads_kept c.less_number.ensures.extends c.requires.owned vs in
    let above = c.in_ok-not_above.ensures.value vs ∙ ap (λ w. nat_lt (nat_of w) (c.args.most + 1)) kept in
    let still = c.less_number-2.ensures.extends.same c.not-not_below.result c.not-not_below.ensures.owned vs in
    c.in_ok-inside.ensures.value vs
    ∙ and_same _ _ _ _ (still ∙ c.not-not_below.ensures.value vs ∙ ap not (c.in_ok-below.ensures.value vs)) above
    ∙ lengths_tested c.args.least c.args.most n
