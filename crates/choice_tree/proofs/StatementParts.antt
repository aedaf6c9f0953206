-- The statements of a plain body, the arms of an `if` and the functions of a program, as lists.
use Rattle.std.proofs.Common.{◌≡◌, ℕ, List, [], ◌∷◌, map, Vec, Option, Some, None, refl, sym, ap}
use Rattle.std.proofs.Common.{◌∙◌}
use Rattle.std.specs.declared.alloc.Global.{Global}
use Rattle.mpy_tree.specs.declared.tree.Stmt.{Stmt}
use Rattle.mpy_tree.specs.declared.tree.Act.{If}
use Rattle.mpy_tree.specs.declared.tree.Act.TheVariants.{rolls-If}
use Rattle.mpy_tree.specs.declared.tree.Act.TheOpen as G
use Rattle.mpy_tree.specs.declared.tree.Stmts.{Stmts, roll-Stmts}
use Rattle.mpy_tree.specs.declared.tree.Arm.{Arm}
use Rattle.mpy_tree.specs.declared.tree.Arms.{Arms, roll-Arms}
use Rattle.mpy_tree.specs.declared.tree.Func.{Func}
use Rattle.mpy_tree.specs.declared.tree.Act.TheFolds.{fold-roll-Act, fold-roll-Stmts}
use Rattle.mpy_tree.specs.declared.tree.Act.TheFolds.{fold-roll-Arms}
use Rattle.mpy_tree.specs.Syntax.{Action, Branch, Branches, Statement, Block}
use Rattle.mpy_tree.specs.Syntax as ast
use Rattle.mpy_tree.specs.View.{statement_of, block, block_of, branch_of, branches, branches_of}
use Rattle.mpy_tree.specs.View.{action_of, block_or_none}
use Rattle.mpy_tree.specs.View.{routine_of, act_step, arm_step, arms_step, stmt_step, stmts_step}
use Rattle.mpy_tree.specs.Trees as kind
use Rattle.mpy_tree.specs.Trees.{Tree, Trees, node, tree_and}
use Rattle.mpy_tree.specs.Shapes.{statement_shape, statement_shapes, block_shape, arm_shape}
use Rattle.mpy_tree.specs.Shapes.{action_shape, arms_shapes, last_shapes, routine_shape}
use Rattle.mpy_tree.specs.Shapes.{routine_shapes}
use Rattle.choice_tree.specs.declared.tree.WAct.{WAct, If as WIf}
use Rattle.choice_tree.specs.declared.tree.WAct.TheVariants.{rolls-If as rolls-WIf}
use Rattle.choice_tree.specs.declared.tree.WAct.TheOpen as H
use Rattle.choice_tree.specs.declared.tree.WStmt.{WStmt}
use Rattle.choice_tree.specs.declared.tree.WStmts.{WStmts, out-WStmts}
use Rattle.choice_tree.specs.declared.tree.WArm.{WArm}
use Rattle.choice_tree.specs.declared.tree.WArms.{WArms, out-WArms}
use Rattle.choice_tree.specs.declared.tree.WFunc.{WFunc}
use Rattle.choice_tree.specs.declared.tree.WAct.TheFolds.{fold-roll-WAct, fold_out-WStmts}
use Rattle.choice_tree.specs.declared.tree.WAct.TheFolds.{fold_out-WArms}
use Rattle.choice_tree.specs.WeightedTrees.{Weighted, Weighteds, plainly}
use Rattle.choice_tree.specs.WeightedViews.{weighteds}
use Rattle.choice_tree.specs.StatementViews.{weighted_stmt, weighted_body, weighted_arm}
use Rattle.choice_tree.specs.StatementViews.{weighted_act, weighted_arms, weighted_else}
use Rattle.choice_tree.specs.StatementViews.{weighted_func, arms_before, wact_step}
use Rattle.choice_tree.specs.StatementViews.{warm_step, warms_step, wstmt_step, wstmts_step}
use Rattle.choice_tree.specs.Selections.{plain, plains, arms_plain}

same_statements : (m : ℕ → ℕ) (ss : List Stmt) (ws : List WStmt)
    → map (λ e. statement_shape (statement_of e)) ss ≡ map (λ w. plain m (weighted_stmt w)) ws
    → statement_shapes (block (map statement_of ss)) ≡ plains m (weighteds (map weighted_stmt ws))
same_statements m [] [] h = refl
same_statements m [] (w ∷ ws) h = cc
same_statements m (s ∷ ss) [] h = cc
same_statements m (s ∷ ss) (w ∷ ws) h =
    let first : statement_shape (statement_of s) ≡ plain m (weighted_stmt w) = cc in
    let rest : map (λ e. statement_shape (statement_of e)) ss
    ≡ map (λ w. plain m (weighted_stmt w)) ws = cc in
    λ i. tree_and (first i) (same_statements m ss ws rest i)

made_is : (items : Vec Stmt Global)
    → block_of (roll-Stmts (record { items = items })) ≡ block (map statement_of items.items)
made_is items =
    fold-roll-Stmts Action Branch Branches Statement Block act_step arm_step arms_step stmt_step
    stmts_step (record { items = items })

body_is : (b : WStmts)
    → weighted_body b ≡ plainly kind.Block
    (weighteds (map weighted_stmt (out-WStmts b).items.items))
body_is b =
    fold_out-WStmts (ℕ → Weighted) Weighted (List Weighted) Weighted Weighted wact_step warm_step
    warms_step wstmt_step wstmts_step b

pub body_plain : (m : ℕ → ℕ) (items : Vec Stmt Global) (b : WStmts) (ws : List WStmt)
    → ws ≡ (out-WStmts b).items.items
    → map (λ e. statement_shape (statement_of e)) items.items
    ≡ map (λ w. plain m (weighted_stmt w)) ws
    → block_shape (block_of (roll-Stmts (record { items = items }))) ≡ plain m (weighted_body b)
body_plain m items b ws e h =
    ap block_shape (made_is items)
    ∙ ap (node kind.Block) (same_statements m items.items ws h)
    ∙ ap (λ xs. node kind.Block (plains m (weighteds (map weighted_stmt xs)))) e
    ∙ ap (plain m) (sym (body_is b))

same_arms : (m : ℕ → ℕ) (xs : List Arm) (ws : List WArm) (ts : Trees)
    → map (λ a. arm_shape (branch_of a)) xs ≡ map (λ w. plain m (weighted_arm w)) ws
    → arms_shapes (branches (map branch_of xs)) ts ≡ arms_plain m (map weighted_arm ws) ts
same_arms m [] [] ts h = refl
same_arms m [] (w ∷ ws) ts h = cc
same_arms m (a ∷ xs) [] ts h = cc
same_arms m (a ∷ xs) (w ∷ ws) ts h =
    let first : arm_shape (branch_of a) ≡ plain m (weighted_arm w) = cc in
    let rest : map (λ a. arm_shape (branch_of a)) xs
    ≡ map (λ w. plain m (weighted_arm w)) ws = cc in
    λ i. tree_and (first i) (same_arms m xs ws ts rest i)

made_arms : (items : Vec Arm Global)
    → branches_of (roll-Arms (record { items = items })) ≡ branches (map branch_of items.items)
made_arms items =
    fold-roll-Arms Action Branch Branches Statement Block act_step arm_step arms_step stmt_step
    stmts_step (record { items = items })

arms_are : (b : WArms) → weighted_arms b ≡ map weighted_arm (out-WArms b).items.items
arms_are b =
    fold_out-WArms (ℕ → Weighted) Weighted (List Weighted) Weighted Weighted wact_step warm_step
    warms_step wstmt_step wstmts_step b

pub arms_made : (m : ℕ → ℕ) (items : Vec Arm Global) (b : WArms) (ws : List WArm) (ts : Trees)
    → ws ≡ (out-WArms b).items.items
    → map (λ a. arm_shape (branch_of a)) items.items ≡ map (λ w. plain m (weighted_arm w)) ws
    → arms_shapes (branches_of (roll-Arms (record { items = items }))) ts
    ≡ arms_plain m (weighted_arms b) ts
arms_made m items b ws ts e h =
    ap (λ bs. arms_shapes bs ts) (made_arms items)
    ∙ same_arms m items.items ws ts h
    ∙ ap (λ xs. arms_plain m (map weighted_arm xs) ts) e
    ∙ ap (λ xs. arms_plain m xs ts) (sym (arms_are b))

-- the arms and what stands behind them
pub arms_and_last : (m : ℕ → ℕ) (xs : List Weighted) (ws : Weighteds)
    → arms_plain m xs (plains m ws) ≡ plains m (arms_before xs ws)
arms_and_last m [] ws = refl
arms_and_last m (a ∷ xs) ws = ap (tree_and (plain m a)) (arms_and_last m xs ws)

if_is : (arms : Arms) (last : Option Stmts)
    → action_of (If arms last) ≡ ast.If (branches_of arms) (block_or_none last)
if_is arms None =
    ap action_of (sym (rolls-If arms None))
    ∙ fold-roll-Act Action Branch Branches Statement Block act_step arm_step arms_step stmt_step
    stmts_step (G.If arms None)
if_is arms (Some body) =
    ap action_of (sym (rolls-If arms (Some body)))
    ∙ fold-roll-Act Action Branch Branches Statement Block act_step arm_step arms_step stmt_step
    stmts_step (G.If arms (Some body))

weighted_if : (arms : WArms) (last : Option WStmts) (line : ℕ)
    → weighted_act (WIf arms last) line
    ≡ plainly (kind.If line) (arms_before (weighted_arms arms) (weighted_else last))
weighted_if arms None line =
    ap (λ a. weighted_act a line) (sym (rolls-WIf arms None))
    ∙ ap (λ f. f line) (fold-roll-WAct (ℕ → Weighted) Weighted (List Weighted) Weighted Weighted
    wact_step warm_step warms_step wstmt_step wstmts_step (H.If arms None))
weighted_if arms (Some body) line =
    ap (λ a. weighted_act a line) (sym (rolls-WIf arms (Some body)))
    ∙ ap (λ f. f line) (fold-roll-WAct (ℕ → Weighted) Weighted (List Weighted) Weighted Weighted
    wact_step warm_step warms_step wstmt_step wstmts_step (H.If arms (Some body)))

-- the plain `if` of a weighted one: bs are its arms, and cs too, and l its last body
pub if_plain : (m : ℕ → ℕ) (line : ℕ) (a : WAct) (arms : WArms) (last : Option WStmts)
    (made : Arms) (more : Option Stmts) (cs : Branches) → a ≡ WIf arms last
    → branches_of made ≡ cs
    → ((ts : Trees) → arms_shapes cs ts ≡ arms_plain m (weighted_arms arms) ts)
    → last_shapes (block_or_none more) ≡ plains m (weighted_else last)
    → action_shape (action_of (If made more)) line ≡ plain m (weighted_act a line)
if_plain m line a arms last made more cs is same parts end =
    ap (λ x. action_shape x line) (if_is made more)
    ∙ ap (node (kind.If line))
    (ap (λ b. arms_shapes b (last_shapes (block_or_none more))) same
    ∙ ap (arms_shapes cs) end ∙ parts (plains m (weighted_else last))
    ∙ arms_and_last m (weighted_arms arms) (weighted_else last))
    ∙ ap (plain m) (sym (ap (λ x. weighted_act x line) is ∙ weighted_if arms last line))

pub functions_plain : (m : ℕ → ℕ) (fs : List Func) (ws : List WFunc)
    → map (λ f. routine_shape (routine_of f)) fs ≡ map (λ w. plain m (weighted_func w)) ws
    → routine_shapes (map routine_of fs) ≡ plains m (weighteds (map weighted_func ws))
functions_plain m [] [] h = refl
functions_plain m [] (w ∷ ws) h = cc
functions_plain m (f ∷ fs) [] h = cc
functions_plain m (f ∷ fs) (w ∷ ws) h =
    let first : routine_shape (routine_of f) ≡ plain m (weighted_func w) = cc in
    let rest : map (λ f. routine_shape (routine_of f)) fs
    ≡ map (λ w. plain m (weighted_func w)) ws = cc in
    λ i. tree_and (first i) (functions_plain m fs ws rest i)
