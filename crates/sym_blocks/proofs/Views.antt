-- What the code's weighted statements are, by their parts.
use Rattle.std.proofs.Common.{◌≡◌, ◌∙◌, ℕ, List, map, Option, Some, None, ap, sym}
use Rattle.mpy_tree.specs.declared.operators.ArithOp.{ArithOp}
use Rattle.mpy_tree.specs.Trees as kind
use Rattle.choice_tree.specs.declared.tree.WAct as act
use Rattle.choice_tree.specs.declared.tree.WAct.TheVariants as rolls
use Rattle.choice_tree.specs.declared.tree.WAct.TheFolds.{fold-roll-WAct, fold_out-WArm}
use Rattle.choice_tree.specs.declared.tree.WAct.TheFolds.{fold_out-WArms, fold_out-WStmt}
use Rattle.choice_tree.specs.declared.tree.WAct.TheFolds.{fold_out-WStmts}
use Rattle.choice_tree.specs.declared.tree.WAct.TheOpen as G
use Rattle.choice_tree.specs.declared.tree.WArm.{WArm, out-WArm}
use Rattle.choice_tree.specs.declared.tree.WArms.{WArms, out-WArms}
use Rattle.choice_tree.specs.declared.tree.WExpr.{WExpr}
use Rattle.choice_tree.specs.declared.tree.WStmt.{WStmt, out-WStmt}
use Rattle.choice_tree.specs.declared.tree.WStmts.{WStmts, out-WStmts}
use Rattle.choice_tree.specs.StatementViews.{arms_before, maybe_weighted, wact_step, warm_step}
use Rattle.choice_tree.specs.StatementViews.{warms_step, weighted_act, weighted_arm, weighted_arms}
use Rattle.choice_tree.specs.StatementViews.{weighted_body, weighted_else, weighted_stmt}
use Rattle.choice_tree.specs.StatementViews.{wstmt_step, wstmts_step}
use Rattle.choice_tree.specs.WeightedTrees.{Weighted, plainly, no_weighted}
use Rattle.choice_tree.specs.WeightedViews.{one, two, weighted_of, weighteds}

pub body_is : (b : WStmts)
    → weighted_body b ≡ plainly kind.Block
    (weighteds (map weighted_stmt (out-WStmts b).items.items))
body_is b = fold_out-WStmts (ℕ → Weighted) Weighted (List Weighted) Weighted Weighted wact_step
    warm_step warms_step wstmt_step wstmts_step b

pub arms_are : (b : WArms) → weighted_arms b ≡ map weighted_arm (out-WArms b).items.items
arms_are b = fold_out-WArms (ℕ → Weighted) Weighted (List Weighted) Weighted Weighted wact_step
    warm_step warms_step wstmt_step wstmts_step b

pub arm_is : (a : WArm)
    → weighted_arm a ≡ plainly (kind.Arm (out-WArm a).line)
    (two (weighted_of (out-WArm a).test) (weighted_body (out-WArm a).body))
arm_is a = fold_out-WArm (ℕ → Weighted) Weighted (List Weighted) Weighted Weighted wact_step
    warm_step warms_step wstmt_step wstmts_step a

pub stmt_is : (s : WStmt) → weighted_stmt s ≡ weighted_act (out-WStmt s).act (out-WStmt s).line
stmt_is s = fold_out-WStmt (ℕ → Weighted) Weighted (List Weighted) Weighted Weighted wact_step
    warm_step warms_step wstmt_step wstmts_step s

pub assign_is : (x : List ℕ) (e : WExpr) (line : ℕ)
    → weighted_act (act.Assign x e) line ≡ plainly (kind.Assign line x) (one (weighted_of e))
assign_is x e line =
    ap (λ a. weighted_act a line) (sym (rolls.rolls-Assign x e))
    ∙ ap (λ f. f line) (fold-roll-WAct (ℕ → Weighted) Weighted (List Weighted) Weighted Weighted wact_step
    warm_step warms_step wstmt_step wstmts_step (G.Assign x e))

pub augment_is : (x : List ℕ) (op : ArithOp) (e : WExpr) (line : ℕ)
    → weighted_act (act.Augment x op e) line ≡ plainly (kind.Augment line x op) (one (weighted_of e))
augment_is x op e line =
    ap (λ a. weighted_act a line) (sym (rolls.rolls-Augment x op e))
    ∙ ap (λ f. f line) (fold-roll-WAct (ℕ → Weighted) Weighted (List Weighted) Weighted Weighted wact_step
    warm_step warms_step wstmt_step wstmts_step (G.Augment x op e))

pub put_is : (x : List ℕ) (i e : WExpr) (line : ℕ)
    → weighted_act (act.Put x i e) line ≡ plainly (kind.Put line x)
    (two (weighted_of i) (weighted_of e))
put_is x i e line =
    ap (λ a. weighted_act a line) (sym (rolls.rolls-Put x i e))
    ∙ ap (λ f. f line) (fold-roll-WAct (ℕ → Weighted) Weighted (List Weighted) Weighted Weighted wact_step
    warm_step warms_step wstmt_step wstmts_step (G.Put x i e))

pub augment_at_is : (x : List ℕ) (i : WExpr) (op : ArithOp) (e : WExpr) (line : ℕ)
    → weighted_act (act.AugmentAt x i op e) line ≡ plainly (kind.AugmentAt line x op)
    (two (weighted_of i) (weighted_of e))
augment_at_is x i op e line =
    ap (λ a. weighted_act a line) (sym (rolls.rolls-AugmentAt x i op e))
    ∙ ap (λ f. f line) (fold-roll-WAct (ℕ → Weighted) Weighted (List Weighted) Weighted Weighted wact_step
    warm_step warms_step wstmt_step wstmts_step (G.AugmentAt x i op e))

pub append_is : (x : List ℕ) (e : WExpr) (line : ℕ)
    → weighted_act (act.Append x e) line ≡ plainly (kind.Append line x) (one (weighted_of e))
append_is x e line =
    ap (λ a. weighted_act a line) (sym (rolls.rolls-Append x e))
    ∙ ap (λ f. f line) (fold-roll-WAct (ℕ → Weighted) Weighted (List Weighted) Weighted Weighted wact_step
    warm_step warms_step wstmt_step wstmts_step (G.Append x e))

pub print_is : (e : WExpr) (line : ℕ)
    → weighted_act (act.Print e) line ≡ plainly (kind.Print line) (one (weighted_of e))
print_is e line =
    ap (λ a. weighted_act a line) (sym (rolls.rolls-Print e))
    ∙ ap (λ f. f line) (fold-roll-WAct (ℕ → Weighted) Weighted (List Weighted) Weighted Weighted wact_step
    warm_step warms_step wstmt_step wstmts_step (G.Print e))

pub return_is : (e : Option WExpr) (line : ℕ)
    → weighted_act (act.Return e) line ≡ plainly (kind.Return line) (maybe_weighted e)
return_is e line =
    ap (λ a. weighted_act a line) (sym (rolls.rolls-Return e))
    ∙ ap (λ f. f line) (fold-roll-WAct (ℕ → Weighted) Weighted (List Weighted) Weighted Weighted wact_step
    warm_step warms_step wstmt_step wstmts_step (G.Return e))

pub pass_is : (line : ℕ)
    → weighted_act act.Pass line ≡ plainly (kind.Pass line) no_weighted
pass_is line =
    ap (λ a. weighted_act a line) (sym rolls.rolls-Pass)
    ∙ ap (λ f. f line) (fold-roll-WAct (ℕ → Weighted) Weighted (List Weighted) Weighted Weighted wact_step
    warm_step warms_step wstmt_step wstmts_step G.Pass)

pub break_is : (line : ℕ)
    → weighted_act act.Break line ≡ plainly (kind.Break line) no_weighted
break_is line =
    ap (λ a. weighted_act a line) (sym rolls.rolls-Break)
    ∙ ap (λ f. f line) (fold-roll-WAct (ℕ → Weighted) Weighted (List Weighted) Weighted Weighted wact_step
    warm_step warms_step wstmt_step wstmts_step G.Break)

pub continue_is : (line : ℕ)
    → weighted_act act.Continue line ≡ plainly (kind.Continue line) no_weighted
continue_is line =
    ap (λ a. weighted_act a line) (sym rolls.rolls-Continue)
    ∙ ap (λ f. f line) (fold-roll-WAct (ℕ → Weighted) Weighted (List Weighted) Weighted Weighted wact_step
    warm_step warms_step wstmt_step wstmts_step G.Continue)

pub while_is : (e : WExpr) (body : WStmts) (line : ℕ)
    → weighted_act (act.While e body) line ≡ plainly (kind.While line)
    (two (weighted_of e) (weighted_body body))
while_is e body line =
    ap (λ a. weighted_act a line) (sym (rolls.rolls-While e body))
    ∙ ap (λ f. f line) (fold-roll-WAct (ℕ → Weighted) Weighted (List Weighted) Weighted Weighted wact_step
    warm_step warms_step wstmt_step wstmts_step (G.While e body))

pub for_is : (x : List ℕ) (e : WExpr) (body : WStmts) (line : ℕ)
    → weighted_act (act.For x e body) line ≡ plainly (kind.For line x)
    (two (weighted_of e) (weighted_body body))
for_is x e body line =
    ap (λ a. weighted_act a line) (sym (rolls.rolls-For x e body))
    ∙ ap (λ f. f line) (fold-roll-WAct (ℕ → Weighted) Weighted (List Weighted) Weighted Weighted wact_step
    warm_step warms_step wstmt_step wstmts_step (G.For x e body))

pub if_is : (arms : WArms) (last : Option WStmts) (line : ℕ)
    → weighted_act (act.If arms last) line
    ≡ plainly (kind.If line) (arms_before (weighted_arms arms) (weighted_else last))
if_is arms None line =
    ap (λ a. weighted_act a line) (sym (rolls.rolls-If arms None))
    ∙ ap (λ f. f line) (fold-roll-WAct (ℕ → Weighted) Weighted (List Weighted) Weighted Weighted wact_step
    warm_step warms_step wstmt_step wstmts_step (G.If arms None))
if_is arms (Some body) line =
    ap (λ a. weighted_act a line) (sym (rolls.rolls-If arms (Some body)))
    ∙ ap (λ f. f line) (fold-roll-WAct (ℕ → Weighted) Weighted (List Weighted) Weighted Weighted wact_step
    warm_step warms_step wstmt_step wstmts_step (G.If arms (Some body)))
