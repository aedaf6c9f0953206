use Rattle.std.proofs.Common.{◌<◌, ◌∙◌, List, ap, subst, sym, arith}
use Rattle.choice_tree.specs.declared.tree.WProg.{WProg}
use Rattle.choice_tree.specs.StatementViews.{weighted_prog}
use Rattle.cost_levels.specs.declared.rows.Row.{Row}
use Rattle.cost_levels.specs.Counts.{counted}
use Rattle.cost_levels.specs.Levels.{level}
use Rattle.cost_levels.specs.Plans.{done, planned}
use Rattle.cost_levels.specs.Rows.{IsTable, Shows}
use Rattle.cost_levels.proofs.Numbered.{number_there, reach_whole}
use Rattle.cost_levels.proofs.levels.Levels.count.Goals as goal

pub of-requires : goal.of-requires
of-requires c = subst IsTable (sym c.as_slice.ensures.value) c.self.invariant.0

pub at-requires : goal.at-requires
at-requires c =
    let plan = planned (weighted_prog c.self.inside.tree.now) done in
    let wide = c.in_ok-counts.ensures.wide in
    reach_whole c.as_slice.result.now c.in_ok-counts.counts c.self.inside.first c.args.cost plan
    c.in_ok-counts.ensures.right
    (subst (λ (rs : List Row). Shows rs c.self.inside.first plan) (sym c.as_slice.ensures.value)
    c.self.invariant.1) (omega (arith, wide))

pub returns : goal.returns
returns c =
    let rows = c.as_slice.result.now in
    let counts = c.in_ok-counts.counts in
    let first = c.self.inside.first in
    let cost = c.args.cost in
    let plan = planned (weighted_prog c.self.inside.tree.now) done in
    let right = c.in_ok-counts.ensures.right in
    let shows : Shows rows first plan =
    subst (λ (rs : List Row). Shows rs first plan) (sym c.as_slice.ensures.value)
    c.self.invariant.1 in
    let wide = c.in_ok-counts.ensures.wide in
    let within : cost < counts.width = omega (arith, wide) in
    number_there rows counts first cost c.at.result plan right.so_far within
    (reach_whole rows counts first cost plan right shows within) shows c.at.ensures
    ∙ ap (λ (t : WProg). counted (level (weighted_prog t) cost)) c.self.view_is
