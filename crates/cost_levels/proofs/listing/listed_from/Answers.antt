use Rattle.std.proofs.Common.{◌++◌, ◌∙◌}
use Rattle.cost_levels.specs.Plans.{listed}
use Rattle.cost_levels.proofs.Walked.{behind, behind_none}
use Rattle.cost_levels.proofs.listing.listed_from.Goals as goal

pub returns : goal.returns
returns c = λ p shows.
    let ss = listed p c.args.cost in
    c.in_ok-push_listed.ensures.listed p shows
    ∙ (λ i. c.new-listed.ensures.items i ++ behind (c.new-chosen.ensures.items i) ss)
    ∙ behind_none ss
