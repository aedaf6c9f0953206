-- What the code's references to nodes are as mathematics.
use Rattle.std.specs.Prelude.{ℕ, map, Option, Some, None}
use denote.Ref.{Bor}
use Rattle.choice_tree.specs.declared.node.Node.{Node}
use Rattle.choice_tree.specs.declared.node.Node.TheVariants as node
use Rattle.choice_tree.specs.declared.node.Pick.{Pick}
use Rattle.choice_tree.specs.declared.tree.WExpr.{WExpr}
use Rattle.choice_tree.specs.WeightedTrees.{Weighted, Others, plainly, pick}
use Rattle.choice_tree.specs.WeightedViews.{weighted_of, members, member_seen}
use Rattle.choice_tree.specs.StatementViews.{weighted_stmt, weighted_arm, weighted_body}
use Rattle.choice_tree.specs.StatementViews.{weighted_func, weighted_prog}

abbrev pub node_of : Node → Weighted
node_of (node.Expr e) = weighted_of e.now
node_of (node.Stmt s) = weighted_stmt s.now
node_of (node.Arm a) = weighted_arm a.now
node_of (node.Body b) = weighted_body b.now
node_of (node.Func f) = weighted_func f.now
node_of (node.Prog p) = weighted_prog p.now

abbrev pub expr_of : Bor WExpr → Weighted
expr_of e = weighted_of e.now

-- a pick, taken apart
pub record PickForm : Type 0 where
  pub number : ℕ
  pub base : Weighted
  pub others : Others

abbrev pub pick_of : Pick → PickForm
pick_of p =
    record {
      number = p.number;
      base = weighted_of p.base.now;
      others = members (map member_seen p.others.now);
    }

-- the pick that a tree is
abbrev pub own_pick : Weighted → Option PickForm
own_pick (plainly k ws) = None
own_pick (pick number base os) = Some (record { number = number; base = base; others = os })
