use Rattle.std.proofs.Common.{◌∙◌, ap, not}
use Rattle.input_ranges.proofs.Between.{and_same}
use Rattle.query_build.proofs.compared.fails.Goals as goal

pub returns-clause-value : goal.returns-clause-value
returns-clause-value g c vs xs p chosen h =
    let both = c.in_ok-both.ensures in
    let differs = c.not-differs.ensures.value vs ∙ ap not (both.meets vs xs p chosen h) in
    c.in_ok-failing.ensures.value vs ∙ and_same _ _ _ _ (both.ends vs xs h) differs
