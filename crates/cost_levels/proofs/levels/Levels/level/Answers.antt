use Rattle.std.proofs.Common.{◌≡◌, ◌∙◌, List, ap, subst, sym}
use Rattle.std.specs.List.Sorted.{IsPermutation}
use Rattle.choice_tree.specs.declared.selection.Choice.{Choice}
use Rattle.choice_tree.specs.declared.tree.WProg.{WProg}
use Rattle.choice_tree.specs.StatementViews.{weighted_prog}
use Rattle.cost_levels.specs.declared.rows.Row.{Row}
use Rattle.cost_levels.specs.Levels.{level}
use Rattle.cost_levels.specs.Plans.{done, planned}
use Rattle.cost_levels.specs.Rows.{Shows}
use Rattle.cost_levels.proofs.levels.Levels.level.Goals as goal

pub listed_from-requires : goal.listed_from-requires
listed_from-requires c =
    let plan = planned (weighted_prog c.self.inside.tree.now) done in
    record {
      entry = (
        plan,
        subst (λ (rs : List Row). Shows rs c.self.inside.first plan) (sym c.as_slice-rows.ensures.value)
            c.self.invariant.1,
      );
      counts = c.none-counts.ensures c.as_slice-rows.result.now;
    }

pub returns-clause-listed : goal.returns-clause-listed
returns-clause-listed c =
    let plan = planned (weighted_prog c.self.inside.tree.now) done in
    let shows : Shows c.as_slice-rows.result.now c.self.inside.first plan =
    subst (λ (rs : List Row). Shows rs c.self.inside.first plan) (sym c.as_slice-rows.ensures.value)
    c.self.invariant.1 in
    let all : c.in_ok-listed.listed.items ≡ level (weighted_prog c.args.self.now) c.args.cost =
    c.in_ok-listed.ensures plan shows
    ∙ ap (λ (t : WProg). level (weighted_prog t) c.args.cost) c.self.view_is in
    subst (λ (ss : List (List Choice)). IsPermutation ss c.sort.new.listed.items) all
    c.in_ok-sort.ensures.same
