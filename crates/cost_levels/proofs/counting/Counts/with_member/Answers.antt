use Rattle.std.proofs.Common.{◌-◌, ◌<◌, arith}
use Rattle.cost_levels.proofs.Numbered.{member_added, member_beyond, number_there}
use Rattle.cost_levels.proofs.counting.Counts.with_member.Goals as goal

pub returns-then-cost-price : goal.returns-then-cost-price
returns-then-cost-price c = λ rows next pick i right shows.
    member_beyond c.args.way.cost next pick i c.args.cost c.args.number c.min.result
    c.if-cost-price.true c.min.ensures

pub returns : goal.returns
returns c = λ rows next pick i right shows.
    let le = c.if-cost-price.false in
    let left = c.args.cost - c.args.way.cost in
    let within = c.requires.within in
    let less : left < c.args.self.now.width = omega (arith, within) in
    let more =
    number_there rows c.args.self.now c.args.way.next left c.at-more.result next right less
    (c.requires.reach left less) shows c.at-more.ensures in
    member_added c.args.way.cost next pick i c.args.cost c.args.number c.at-more.result
    c.min-2.result le more (let sum = c.saturating_add.ensures in let most = c.min-2.ensures in omega (arith, sum, most))
