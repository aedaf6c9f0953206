use Rattle.std.proofs.Common.{◌≡◌, arith}
use Rattle.std.proofs.lemmas.Bool.Decides.{nat_tests}
use Rattle.cost_levels.specs.Plans.{listed}
use Rattle.cost_levels.proofs.Numbered.{none_listed, number_there, reach_whole}
use Rattle.cost_levels.proofs.listing.Walk.has_none.Goals as goal

pub at-requires : goal.at-requires
at-requires c =
    let entry = c.requires.entry in
    reach_whole c.args.self.now.rows.now c.args.self.now.counts.now c.args.entry c.args.cost entry.0
    c.requires.counts entry.1 c.if-cost-self.true

pub returns-then-cost-self : goal.returns-then-cost-self
returns-then-cost-self c = λ none p shows.
    let rows = c.args.self.now.rows.now in
    let counts = c.args.self.now.counts.now in
    let right = c.requires.counts in
    let within = c.if-cost-self.true in
    let is =
    number_there rows counts c.args.entry c.args.cost c.at.result p right.so_far within
    (reach_whole rows counts c.args.entry c.args.cost p right shows within) shows c.at.ensures in
    let zero : c.at.result ≡ 0 = grind (arith, nat_tests) in
    none_listed (listed p c.args.cost) c.at.result is zero
