-- What the code's weighted statements are as mathematics.
use Rattle.std.specs.Prelude.{ℕ, List, [], ◌∷◌, map, Option, Some, None}
use Rattle.choice_tree.specs.declared.tree.WAct.{WAct}
use Rattle.choice_tree.specs.declared.tree.WArm.{WArm}
use Rattle.choice_tree.specs.declared.tree.WArms.{WArms}
use Rattle.choice_tree.specs.declared.tree.WStmt.{WStmt}
use Rattle.choice_tree.specs.declared.tree.WStmts.{WStmts}
use Rattle.choice_tree.specs.declared.tree.WAct.TheOpen as G
use Rattle.choice_tree.specs.declared.tree.WAct.TheFolds.{fold-WAct, fold-WArm, fold-WArms}
use Rattle.choice_tree.specs.declared.tree.WAct.TheFolds.{fold-WStmt, fold-WStmts}
use Rattle.choice_tree.specs.declared.tree.WExpr.{WExpr}
use Rattle.choice_tree.specs.declared.tree.WFunc.{WFunc}
use Rattle.choice_tree.specs.declared.tree.WProg.{WProg}
use Rattle.mpy_tree.specs.Trees as kind
use Rattle.choice_tree.specs.WeightedTrees.{Weighted, Weighteds, plainly, no_weighted, weighted_and}
use Rattle.choice_tree.specs.WeightedViews.{weighted_of, weighteds, one, two}

-- an expression that may be missing
abbrev pub maybe_weighted : Option WExpr → Weighteds
maybe_weighted None = no_weighted
maybe_weighted (Some e) = one (weighted_of e)

-- a body that may be missing
abbrev pub maybe_body : Option Weighted → Weighteds
maybe_body None = no_weighted
maybe_body (Some b) = one b

-- arms before other parts
abbrev pub arms_before : List Weighted → Weighteds → Weighteds
arms_before [] ws = ws
arms_before (a ∷ rest) ws = weighted_and a (arms_before rest ws)

abbrev pub wact_step : G.WAct-F (ℕ → Weighted) Weighted (List Weighted) Weighted Weighted → ℕ
    → Weighted
wact_step (G.Assign x e) line = plainly (kind.Assign line x) (one (weighted_of e))
wact_step (G.Augment x op e) line = plainly (kind.Augment line x op) (one (weighted_of e))
wact_step (G.Put x i e) line = plainly (kind.Put line x) (two (weighted_of i) (weighted_of e))
wact_step (G.AugmentAt x i op e) line =
    plainly (kind.AugmentAt line x op) (two (weighted_of i) (weighted_of e))
wact_step (G.Append x e) line = plainly (kind.Append line x) (one (weighted_of e))
wact_step (G.Print e) line = plainly (kind.Print line) (one (weighted_of e))
wact_step (G.Return e) line = plainly (kind.Return line) (maybe_weighted e)
wact_step G.Pass line = plainly (kind.Pass line) no_weighted
wact_step G.Break line = plainly (kind.Break line) no_weighted
wact_step G.Continue line = plainly (kind.Continue line) no_weighted
wact_step (G.If arms last) line = plainly (kind.If line) (arms_before arms (maybe_body last))
wact_step (G.While e body) line = plainly (kind.While line) (two (weighted_of e) body)
wact_step (G.For x e body) line = plainly (kind.For line x) (two (weighted_of e) body)

abbrev pub warm_step : G.WArm-F (ℕ → Weighted) Weighted (List Weighted) Weighted Weighted → Weighted
warm_step a = plainly (kind.Arm a.line) (two (weighted_of a.test) a.body)

abbrev pub warms_step : G.WArms-F (ℕ → Weighted) Weighted (List Weighted) Weighted Weighted
    → List Weighted
warms_step a = a.items.items

abbrev pub wstmt_step : G.WStmt-F (ℕ → Weighted) Weighted (List Weighted) Weighted Weighted
    → Weighted
wstmt_step s = s.act s.line

abbrev pub wstmts_step : G.WStmts-F (ℕ → Weighted) Weighted (List Weighted) Weighted Weighted
    → Weighted
wstmts_step b = plainly kind.Block (weighteds b.items.items)

abbrev pub weighted_act : WAct → ℕ → Weighted
weighted_act =
    fold-WAct (ℕ → Weighted) Weighted (List Weighted) Weighted Weighted wact_step warm_step
    warms_step wstmt_step wstmts_step

abbrev pub weighted_arm : WArm → Weighted
weighted_arm =
    fold-WArm (ℕ → Weighted) Weighted (List Weighted) Weighted Weighted wact_step warm_step
    warms_step wstmt_step wstmts_step

abbrev pub weighted_arms : WArms → List Weighted
weighted_arms =
    fold-WArms (ℕ → Weighted) Weighted (List Weighted) Weighted Weighted wact_step warm_step
    warms_step wstmt_step wstmts_step

abbrev pub weighted_stmt : WStmt → Weighted
weighted_stmt =
    fold-WStmt (ℕ → Weighted) Weighted (List Weighted) Weighted Weighted wact_step warm_step
    warms_step wstmt_step wstmts_step

abbrev pub weighted_body : WStmts → Weighted
weighted_body =
    fold-WStmts (ℕ → Weighted) Weighted (List Weighted) Weighted Weighted wact_step warm_step
    warms_step wstmt_step wstmts_step

abbrev pub weighted_else : Option WStmts → Weighteds
weighted_else None = no_weighted
weighted_else (Some b) = one (weighted_body b)

abbrev pub weighted_func : WFunc → Weighted
weighted_func f = plainly (kind.Function f.line f.name f.params) (one (weighted_body f.body))

abbrev pub weighted_prog : WProg → Weighted
weighted_prog p = plainly kind.Program (weighteds (map weighted_func p.funcs.items.items))
