-- Whatever members are chosen, a weighted body makes a body: by induction over the code's trees.
use Rattle.std.proofs.Common.{◌≡◌, ℕ, List, [], ◌∷◌, map, Some, None, refl, sym, ap, ◌∙◌, subst}
use Rattle.mpy_tree.specs.Syntax.{Statement, at, Action, Block, end, step, MaybeBlock, no_block}
use Rattle.mpy_tree.specs.Syntax.{a_block, Branch, arm, Branches, no_arms, arm_and, no_term, a_term}
use Rattle.mpy_tree.specs.Syntax as ast
use Rattle.mpy_tree.specs.Shapes.{action_shape, arm_shape, arms_shapes, block_shape, last_shapes}
use Rattle.mpy_tree.specs.Shapes.{statement_shape, statement_shapes}
use Rattle.mpy_tree.specs.Trees as kind
use Rattle.mpy_tree.specs.Trees.{Trees, node, tree_and, one, two}
use Rattle.choice_tree.specs.declared.tree.WAct.{WAct, map-WAct}
use Rattle.choice_tree.specs.declared.tree.WArm.{WArm, map-WArm}
use Rattle.choice_tree.specs.declared.tree.WArms.{WArms, map-WArms}
use Rattle.choice_tree.specs.declared.tree.WStmt.{WStmt, map-WStmt}
use Rattle.choice_tree.specs.declared.tree.WStmts.{WStmts, map-WStmts}
use Rattle.choice_tree.specs.declared.tree.WExpr.{WExpr}
use Rattle.choice_tree.specs.declared.tree.WAct.TheOpen as G
use Rattle.choice_tree.specs.declared.tree.WAct.TheFolds.{fold-roll-WAct, fold-roll-WArm}
use Rattle.choice_tree.specs.declared.tree.WAct.TheFolds.{fold-roll-WArms, fold-roll-WStmt}
use Rattle.choice_tree.specs.declared.tree.WAct.TheFolds.{fold-roll-WStmts, ind-WStmts}
use Rattle.choice_tree.specs.Selections.{arms_plain, plain, plains}
use Rattle.choice_tree.specs.StatementViews.{arms_before, wact_step, warm_step, warms_step}
use Rattle.choice_tree.specs.StatementViews.{weighted_act, weighted_arm, weighted_arms}
use Rattle.choice_tree.specs.StatementViews.{weighted_body, weighted_stmt, wstmt_step, wstmts_step}
use Rattle.choice_tree.specs.WeightedTrees.{Weighted, Weighteds, no_weighted, plainly, weighted_and}
use Rattle.choice_tree.specs.WeightedViews.{weighted_of, weighteds}
use Rattle.choice_tree.proofs.StatementParts.{arms_and_last}
use Rattle.selection_programs.proofs.Terms.{term_made}

-- what the chosen members make is the tree of an action, whatever its line, and so on
abbrev MakesAction : (ℕ → ℕ) → (ℕ → Weighted) → Type 0
MakesAction m f = (a : Action) × ((line : ℕ) → action_shape a line ≡ plain m (f line))

abbrev MakesBranch : (ℕ → ℕ) → Weighted → Type 0
MakesBranch m w = (b : Branch) × (arm_shape b ≡ plain m w)

abbrev MakesBranches : (ℕ → ℕ) → List Weighted → Type 0
MakesBranches m ws =
    (bs : Branches) × ((ts : Trees) → arms_shapes bs ts ≡ arms_plain m ws ts)

abbrev MakesLast : (ℕ → ℕ) → Weighteds → Type 0
MakesLast m ws = (b : MaybeBlock) × (last_shapes b ≡ plains m ws)

abbrev MakesStatement : (ℕ → ℕ) → Weighted → Type 0
MakesStatement m w = (s : Statement) × (statement_shape s ≡ plain m w)

abbrev MakesStatements : (ℕ → ℕ) → Weighteds → Type 0
MakesStatements m ws = (b : Block) × (statement_shapes b ≡ plains m ws)

abbrev pub MakesBlock : (ℕ → ℕ) → Weighted → Type 0
MakesBlock m w = (b : Block) × (block_shape b ≡ plain m w)

-- parts, each with what it makes
abbrev Act : (ℕ → ℕ) → Type 0
Act m = (a : WAct) × MakesAction m (weighted_act a)

abbrev Arm : (ℕ → ℕ) → Type 0
Arm m = (a : WArm) × MakesBranch m (weighted_arm a)

abbrev Arms : (ℕ → ℕ) → Type 0
Arms m = (a : WArms) × MakesBranches m (weighted_arms a)

abbrev Stmt : (ℕ → ℕ) → Type 0
Stmt m = (s : WStmt) × MakesStatement m (weighted_stmt s)

abbrev Stmts : (ℕ → ℕ) → Type 0
Stmts m = (b : WStmts) × MakesBlock m (weighted_body b)

if_made : (m : ℕ → ℕ) (ws : List Weighted) (last : Weighteds) → MakesBranches m ws
    → MakesLast m last → MakesAction m (λ line. plainly (kind.If line) (arms_before ws last))
if_made m ws last bs b = (
  ast.If bs.0 b.0,
  λ line. ap (node (kind.If line))
      (ap (arms_shapes bs.0) b.1 ∙ bs.1 (plains m last) ∙ arms_and_last m ws last),
)

-- one layer, whose parts make actions, bodies and the like
abbrev made_of : (m : ℕ → ℕ) → G.WAct-F (Act m) (Arm m) (Arms m) (Stmt m) (Stmts m) → ℕ → Weighted
made_of m y =
    wact_step (map-WAct WAct WArm WArms WStmt WStmts
    (ℕ → Weighted) Weighted (List Weighted) Weighted Weighted
    weighted_act weighted_arm weighted_arms weighted_stmt weighted_body
    (map-WAct (Act m) (Arm m) (Arms m) (Stmt m) (Stmts m) WAct WArm WArms WStmt WStmts
    (λ a. a.0) (λ a. a.0) (λ a. a.0) (λ s. s.0) (λ b. b.0) y))

layer_made : (m : ℕ → ℕ) (y : G.WAct-F (Act m) (Arm m) (Arms m) (Stmt m) (Stmts m))
    → MakesAction m (made_of m y)
layer_made m (G.Assign x e) =
    let t = term_made m e in
    (ast.Assign x t.0, λ line i. node (kind.Assign line x) (one (t.1 i)))
layer_made m (G.Augment x op e) =
    let t = term_made m e in
    (ast.Augment x op t.0, λ line i. node (kind.Augment line x op) (one (t.1 i)))
layer_made m (G.Put x a e) =
    let u = term_made m a in
    let t = term_made m e in
    (ast.Put x u.0 t.0, λ line i. node (kind.Put line x) (two (u.1 i) (t.1 i)))
layer_made m (G.AugmentAt x a op e) =
    let u = term_made m a in
    let t = term_made m e in
    (ast.AugmentAt x u.0 op t.0, λ line i. node (kind.AugmentAt line x op) (two (u.1 i) (t.1 i)))
layer_made m (G.Append x e) =
    let t = term_made m e in
    (ast.Append x t.0, λ line i. node (kind.Append line x) (one (t.1 i)))
layer_made m (G.Print e) =
    let t = term_made m e in (ast.Print t.0, λ line i. node (kind.Print line) (one (t.1 i)))
layer_made m (G.Return None) = (ast.Return no_term, λ line. refl)
layer_made m (G.Return (Some e)) =
    let t = term_made m e in
    (ast.Return (a_term t.0), λ line i. node (kind.Return line) (one (t.1 i)))
layer_made m G.Pass = (ast.Pass, λ line. refl)
layer_made m G.Break = (ast.Break, λ line. refl)
layer_made m G.Continue = (ast.Continue, λ line. refl)
layer_made m (G.If arms None) =
    if_made m (weighted_arms arms.0) no_weighted arms.1 (no_block, refl)
layer_made m (G.If arms (Some b)) =
    if_made m (weighted_arms arms.0) (weighted_and (weighted_body b.0) no_weighted) arms.1
    (a_block b.1.0, ap one b.1.1)
layer_made m (G.While e b) =
    let t = term_made m e in
    (ast.While t.0 b.1.0, λ line i. node (kind.While line) (two (t.1 i) (b.1.1 i)))
layer_made m (G.For x e b) =
    let t = term_made m e in
    (ast.For x t.0 b.1.0, λ line i. node (kind.For line x) (two (t.1 i) (b.1.1 i)))

arm_made : (m : ℕ → ℕ) (line : ℕ) (e : WExpr) (b : Stmts m)
    → MakesBranch m (plainly (kind.Arm line)
    (weighted_and (weighted_of e) (weighted_and (weighted_body b.0) no_weighted)))
arm_made m line e b =
    let t = term_made m e in
    (arm line t.0 b.1.0, λ i. node (kind.Arm line) (two (t.1 i) (b.1.1 i)))

each_arm : (m : ℕ → ℕ) (xs : List (Arm m))
    → MakesBranches m (map weighted_arm (map (λ a. a.0) xs))
each_arm m [] = (no_arms, λ ts. refl)
each_arm m (a ∷ xs) =
    let rest = each_arm m xs in
    (arm_and a.1.0 rest.0, λ ts i. tree_and (a.1.1 i) (rest.1 ts i))

each_statement : (m : ℕ → ℕ) (xs : List (Stmt m))
    → MakesStatements m (weighteds (map weighted_stmt (map (λ s. s.0) xs)))
each_statement m [] = (end, refl)
each_statement m (s ∷ xs) =
    let rest = each_statement m xs in
    (step s.1.0 rest.0, λ i. tree_and (s.1.1 i) (rest.1 i))

body_made : (m : ℕ → ℕ) (xs : List (Stmt m))
    → MakesBlock m (plainly kind.Block (weighteds (map weighted_stmt (map (λ s. s.0) xs))))
body_made m xs =
    let made = each_statement m xs in
    (made.0, ap (node kind.Block) made.1)

pub block_made : (m : ℕ → ℕ) (b : WStmts) → MakesBlock m (weighted_body b)
block_made m =
    ind-WStmts (λ a. MakesAction m (weighted_act a)) (λ a. MakesBranch m (weighted_arm a))
    (λ a. MakesBranches m (weighted_arms a)) (λ s. MakesStatement m (weighted_stmt s))
    (λ b. MakesBlock m (weighted_body b))
    (λ x y is. subst (MakesAction m)
    (sym (fold-roll-WAct (ℕ → Weighted) Weighted (List Weighted) Weighted Weighted
    wact_step warm_step warms_step wstmt_step wstmts_step x))
    (subst (λ z. MakesAction m (wact_step (map-WAct WAct WArm WArms WStmt WStmts
    (ℕ → Weighted) Weighted (List Weighted) Weighted Weighted
    weighted_act weighted_arm weighted_arms weighted_stmt weighted_body z))) is
    (layer_made m y)))
    (λ x y is. subst (MakesBranch m)
    (sym (fold-roll-WArm (ℕ → Weighted) Weighted (List Weighted) Weighted Weighted
    wact_step warm_step warms_step wstmt_step wstmts_step x))
    (subst (λ z. MakesBranch m (warm_step (map-WArm WAct WArm WArms WStmt WStmts
    (ℕ → Weighted) Weighted (List Weighted) Weighted Weighted
    weighted_act weighted_arm weighted_arms weighted_stmt weighted_body z))) is
    (arm_made m y.line y.test y.body)))
    (λ x y is. subst (MakesBranches m)
    (sym (fold-roll-WArms (ℕ → Weighted) Weighted (List Weighted) Weighted Weighted
    wact_step warm_step warms_step wstmt_step wstmts_step x))
    (subst (λ z. MakesBranches m (warms_step (map-WArms WAct WArm WArms WStmt WStmts
    (ℕ → Weighted) Weighted (List Weighted) Weighted Weighted
    weighted_act weighted_arm weighted_arms weighted_stmt weighted_body z))) is
    (each_arm m y.items.items)))
    (λ x y is. subst (MakesStatement m)
    (sym (fold-roll-WStmt (ℕ → Weighted) Weighted (List Weighted) Weighted Weighted
    wact_step warm_step warms_step wstmt_step wstmts_step x))
    (subst (λ z. MakesStatement m (wstmt_step (map-WStmt WAct WArm WArms WStmt WStmts
    (ℕ → Weighted) Weighted (List Weighted) Weighted Weighted
    weighted_act weighted_arm weighted_arms weighted_stmt weighted_body z))) is
    (at y.line y.act.1.0, y.act.1.1 y.line)))
    (λ x y is. subst (MakesBlock m)
    (sym (fold-roll-WStmts (ℕ → Weighted) Weighted (List Weighted) Weighted Weighted
    wact_step warm_step warms_step wstmt_step wstmts_step x))
    (subst (λ z. MakesBlock m (wstmts_step (map-WStmts WAct WArm WArms WStmt WStmts
    (ℕ → Weighted) Weighted (List Weighted) Weighted Weighted
    weighted_act weighted_arm weighted_arms weighted_stmt weighted_body z))) is
    (body_made m y.items.items)))
