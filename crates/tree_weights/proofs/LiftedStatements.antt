-- The statements of a body, the arms of an `if` and the functions of a program without picks, as
-- lists.
use Rattle.std.proofs.Common.{◌≡◌, ℕ, List, [], ◌∷◌, map, Vec, Option, Some, None, refl, sym, ap}
use Rattle.std.proofs.Common.{◌∙◌}
use Rattle.std.specs.declared.alloc.Global.{Global}
use Rattle.mpy_tree.specs.declared.tree.Stmt.{Stmt}
use Rattle.mpy_tree.specs.declared.tree.Stmts.{Stmts, out-Stmts}
use Rattle.mpy_tree.specs.declared.tree.Arm.{Arm}
use Rattle.mpy_tree.specs.declared.tree.Arms.{Arms, out-Arms}
use Rattle.mpy_tree.specs.declared.tree.Act.{Act, If as PlainIf}
use Rattle.mpy_tree.specs.declared.tree.Act.TheVariants.{rolls-If as rolls-PlainIf}
use Rattle.mpy_tree.specs.declared.tree.Act.TheOpen as G
use Rattle.mpy_tree.specs.declared.tree.Act.TheFolds.{fold-roll-Act, fold_out-Stmts, fold_out-Arms}
use Rattle.mpy_tree.specs.declared.tree.Func.{Func}
use Rattle.mpy_tree.specs.Syntax.{Action, Branch, Branches, Statement, Block, no_arms, arm_and}
use Rattle.mpy_tree.specs.Syntax as ast
use Rattle.mpy_tree.specs.View.{action_of, act_step, arm_step, arms_step, block, block_of}
use Rattle.mpy_tree.specs.View.{block_or_none, branch_of, branches, branches_of, routine_of}
use Rattle.mpy_tree.specs.View.{statement_of, stmt_step, stmts_step}
use Rattle.mpy_tree.specs.Trees as kind
use Rattle.mpy_tree.specs.Trees.{Trees, node}
use Rattle.mpy_tree.specs.Shapes.{action_shape, arm_shape, arms_shapes, block_shape, last_shapes}
use Rattle.mpy_tree.specs.Shapes.{routine_shape, routine_shapes, statement_shape, statement_shapes}
use Rattle.choice_tree.specs.declared.tree.WAct.{If}
use Rattle.choice_tree.specs.declared.tree.WAct.TheVariants.{rolls-If}
use Rattle.choice_tree.specs.declared.tree.WAct.TheOpen as H
use Rattle.choice_tree.specs.declared.tree.WAct.TheFolds.{fold-roll-WAct, fold-roll-WStmts}
use Rattle.choice_tree.specs.declared.tree.WAct.TheFolds.{fold-roll-WArms}
use Rattle.choice_tree.specs.declared.tree.WStmt.{WStmt}
use Rattle.choice_tree.specs.declared.tree.WStmts.{WStmts, roll-WStmts}
use Rattle.choice_tree.specs.declared.tree.WArm.{WArm}
use Rattle.choice_tree.specs.declared.tree.WArms.{WArms, roll-WArms}
use Rattle.choice_tree.specs.declared.tree.WFunc.{WFunc}
use Rattle.choice_tree.specs.StatementViews.{arms_before, wact_step, warm_step, warms_step}
use Rattle.choice_tree.specs.StatementViews.{weighted_act, weighted_arm, weighted_arms}
use Rattle.choice_tree.specs.StatementViews.{weighted_body, weighted_else, weighted_func}
use Rattle.choice_tree.specs.StatementViews.{weighted_stmt, wstmt_step, wstmts_step}
use Rattle.choice_tree.specs.WeightedTrees.{Weighted, lifted, lifted_all, plainly}
use Rattle.choice_tree.specs.WeightedTrees.{weighted_and}
use Rattle.choice_tree.specs.WeightedViews.{weighteds}
use Rattle.tree_weights.specs.LiftedParts.{lifted_arms}

statements_lifted : (ss : List Stmt)
    → weighteds (map (λ s. lifted (statement_shape (statement_of s))) ss)
    ≡ lifted_all (statement_shapes (block (map statement_of ss)))
statements_lifted [] = refl
statements_lifted (s ∷ ss) =
    ap (weighted_and (lifted (statement_shape (statement_of s)))) (statements_lifted ss)

body_made : (items : Vec WStmt Global)
    → weighted_body (roll-WStmts (record { items = items }))
    ≡ plainly kind.Block (weighteds (map weighted_stmt items.items))
body_made items =
    fold-roll-WStmts (ℕ → Weighted) Weighted (List Weighted) Weighted Weighted wact_step warm_step
    warms_step wstmt_step wstmts_step (record { items = items })

body_is : (b : Stmts) → block_of b ≡ block (map statement_of (out-Stmts b).items.items)
body_is b =
    fold_out-Stmts Action Branch Branches Statement Block act_step arm_step arms_step stmt_step
    stmts_step b

pub body_lifted : (items : Vec WStmt Global) (b : Stmts) (ss : List Stmt)
    → ss ≡ (out-Stmts b).items.items
    → map weighted_stmt items.items ≡ map (λ s. lifted (statement_shape (statement_of s))) ss
    → weighted_body (roll-WStmts (record { items = items })) ≡ lifted (block_shape (block_of b))
body_lifted items b ss e h =
    body_made items
    ∙ ap (λ ws. plainly kind.Block (weighteds ws)) h
    ∙ ap (plainly kind.Block) (statements_lifted ss)
    ∙ ap (λ xs. lifted (block_shape (block (map statement_of xs)))) e
    ∙ ap (λ x. lifted (block_shape x)) (sym (body_is b))

arms_made : (items : Vec WArm Global)
    → weighted_arms (roll-WArms (record { items = items })) ≡ map weighted_arm items.items
arms_made items =
    fold-roll-WArms (ℕ → Weighted) Weighted (List Weighted) Weighted Weighted wact_step warm_step
    warms_step wstmt_step wstmts_step (record { items = items })

arms_are : (b : Arms) → branches_of b ≡ branches (map branch_of (out-Arms b).items.items)
arms_are b =
    fold_out-Arms Action Branch Branches Statement Block act_step arm_step arms_step stmt_step
    stmts_step b

each_arm : (xs : List Arm)
    → map (λ a. lifted (arm_shape (branch_of a))) xs ≡ lifted_arms (branches (map branch_of xs))
each_arm [] = refl
each_arm (a ∷ xs) = ap (λ ws. lifted (arm_shape (branch_of a)) ∷ ws) (each_arm xs)

pub arms_lifted : (items : Vec WArm Global) (b : Arms) (xs : List Arm)
    → xs ≡ (out-Arms b).items.items
    → map weighted_arm items.items ≡ map (λ a. lifted (arm_shape (branch_of a))) xs
    → weighted_arms (roll-WArms (record { items = items })) ≡ lifted_arms (branches_of b)
arms_lifted items b xs e h =
    arms_made items ∙ h ∙ each_arm xs
    ∙ ap (λ ys. lifted_arms (branches (map branch_of ys))) e
    ∙ ap lifted_arms (sym (arms_are b))

-- the arms and what stands behind them
arms_and_last : (bs : Branches) (ts : Trees)
    → arms_before (lifted_arms bs) (lifted_all ts) ≡ lifted_all (arms_shapes bs ts)
arms_and_last no_arms ts = refl
arms_and_last (arm_and b bs) ts = ap (weighted_and (lifted (arm_shape b))) (arms_and_last bs ts)

if_is : (arms : Arms) (last : Option Stmts)
    → action_of (PlainIf arms last) ≡ ast.If (branches_of arms) (block_or_none last)
if_is arms None =
    ap action_of (sym (rolls-PlainIf arms None))
    ∙ fold-roll-Act Action Branch Branches Statement Block act_step arm_step arms_step stmt_step
    stmts_step (G.If arms None)
if_is arms (Some body) =
    ap action_of (sym (rolls-PlainIf arms (Some body)))
    ∙ fold-roll-Act Action Branch Branches Statement Block act_step arm_step arms_step stmt_step
    stmts_step (G.If arms (Some body))

weighted_if : (arms : WArms) (last : Option WStmts) (line : ℕ)
    → weighted_act (If arms last) line
    ≡ plainly (kind.If line) (arms_before (weighted_arms arms) (weighted_else last))
weighted_if arms None line =
    ap (λ a. weighted_act a line) (sym (rolls-If arms None))
    ∙ ap (λ f. f line) (fold-roll-WAct (ℕ → Weighted) Weighted (List Weighted) Weighted Weighted
    wact_step warm_step warms_step wstmt_step wstmts_step (H.If arms None))
weighted_if arms (Some body) line =
    ap (λ a. weighted_act a line) (sym (rolls-If arms (Some body)))
    ∙ ap (λ f. f line) (fold-roll-WAct (ℕ → Weighted) Weighted (List Weighted) Weighted Weighted
    wact_step warm_step warms_step wstmt_step wstmts_step (H.If arms (Some body)))

pub if_lifted : (line : ℕ) (a : Act) (arms : Arms) (last : Option Stmts) (made first : WArms)
    (more : Option WStmts) → a ≡ PlainIf arms last → weighted_arms made ≡ weighted_arms first
    → weighted_arms first ≡ lifted_arms (branches_of arms)
    → weighted_else more ≡ lifted_all (last_shapes (block_or_none last))
    → weighted_act (If made more) line ≡ lifted (action_shape (action_of a) line)
if_lifted line a arms last made first more is same parts end =
    weighted_if made more line
    ∙ (λ i. plainly (kind.If line) (arms_before ((same ∙ parts) i) (end i)))
    ∙ ap (plainly (kind.If line))
    (arms_and_last (branches_of arms) (last_shapes (block_or_none last)))
    ∙ ap (λ x. lifted (action_shape x line)) (sym (ap action_of is ∙ if_is arms last))

functions_lifted : (fs : List Func)
    → weighteds (map (λ f. lifted (routine_shape (routine_of f))) fs)
    ≡ lifted_all (routine_shapes (map routine_of fs))
functions_lifted [] = refl
functions_lifted (f ∷ fs) =
    ap (weighted_and (lifted (routine_shape (routine_of f)))) (functions_lifted fs)

pub program_lifted : (ws : List WFunc) (fs : List Func)
    → map weighted_func ws ≡ map (λ f. lifted (routine_shape (routine_of f))) fs
    → plainly kind.Program (weighteds (map weighted_func ws))
    ≡ lifted (node kind.Program (routine_shapes (map routine_of fs)))
program_lifted ws fs h =
    ap (λ xs. plainly kind.Program (weighteds xs)) h
    ∙ ap (plainly kind.Program) (functions_lifted fs)
