-- The view of a list, by its members.
use Rattle.std.proofs.Common.{◌≡◌, map, ap}
use Rattle.choice_tree.specs.declared.tree.WExprs.{WExprs}
use Rattle.choice_tree.specs.declared.tree.Other.{Other}
use Rattle.choice_tree.specs.declared.tree.Others.{Others, out-Others}
use Rattle.choice_tree.specs.declared.tree.WExpr.TheFolds.{fold_out-WExprs, fold_out-Others}
use Rattle.choice_tree.specs.declared.tree.WExpr.TheFolds.{fold_out-Other}
use Rattle.choice_tree.specs.WeightedTrees as W
use Rattle.choice_tree.specs.WeightedTrees.{Weighted, Weighteds}
use Rattle.choice_tree.specs.WeightedViews.{Member, weighted_of, weighteds, weighteds_of, members}
use Rattle.choice_tree.specs.WeightedViews.{member_seen, others_of, wexpr_step, other_step}
use Rattle.choice_tree.specs.WeightedViews.{others_step, wexprs_step}

pub weighteds_of_is : (ws : WExprs) → weighteds_of ws ≡ weighteds (map weighted_of ws.items.items)
weighteds_of_is ws =
    fold_out-WExprs Weighted Member W.Others Weighteds wexpr_step other_step others_step wexprs_step
    ws

pub others_of_is : (os : Others)
    → others_of os ≡ members (map member_seen (out-Others os).items.items)
others_of_is os =
    fold_out-Others Weighted Member W.Others Weighteds wexpr_step other_step others_step wexprs_step
    os

pub tree_of_member : (o : Other) → (member_seen o).tree ≡ weighted_of o.tree
tree_of_member o =
    ap (λ m. m.tree) (fold_out-Other Weighted Member W.Others Weighteds wexpr_step other_step
    others_step wexprs_step o)

pub member_is : (o : Other)
    → member_seen o ≡ record { rule = o.rule; cost = o.cost; tree = weighted_of o.tree }
member_is o =
    fold_out-Other Weighted Member W.Others Weighteds wexpr_step other_step others_step wexprs_step
    o
