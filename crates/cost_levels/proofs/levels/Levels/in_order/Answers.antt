use Rattle.std.proofs.Common.{◌∙◌, List, ap, subst, sym}
use Rattle.choice_tree.specs.declared.tree.WProg.{WProg}
use Rattle.choice_tree.specs.StatementViews.{weighted_prog}
use Rattle.choice_tree.proofs.EditLaws.{if_ok}
use Rattle.cost_levels.specs.declared.rows.Row.{Row}
use Rattle.cost_levels.specs.Levels.{level}
use Rattle.cost_levels.specs.Plans.{done, planned}
use Rattle.cost_levels.specs.Rows.{IsTable, Shows}
use Rattle.cost_levels.proofs.levels.Levels.in_order.Goals as goal

pub of-requires : goal.of-requires
of-requires c = subst IsTable (sym c.as_slice-rows.ensures.value) c.self.invariant.0

pub listed_from-requires : goal.listed_from-requires
listed_from-requires c =
    let plan = planned (weighted_prog c.self.inside.tree.now) done in
    record {
      entry = (
        plan,
        subst (λ (rs : List Row). Shows rs c.self.inside.first plan) (sym c.as_slice-rows.ensures.value)
            c.self.invariant.1,
      );
      counts = c.in_ok-counts.ensures.right;
    }

pub returns : goal.returns
returns c =
    let plan = planned (weighted_prog c.self.inside.tree.now) done in
    let shows : Shows c.as_slice-rows.result.now c.self.inside.first plan =
    subst (λ (rs : List Row). Shows rs c.self.inside.first plan) (sym c.as_slice-rows.ensures.value)
    c.self.invariant.1 in
    if_ok c.listed_from.result
    (λ v h. h plan shows ∙ ap (λ (t : WProg). level (weighted_prog t) c.args.cost) c.self.view_is)
    c.listed_from.ensures
