-- What statements are, by how their trees are made.
use Rattle.std.proofs.Common.{◌≡◌, Option, None, Some, map, sym, ap, ◌∙◌}
use Rattle.mpy_tree.specs.declared.tree.Stmts.{Stmts, out-Stmts}
use Rattle.mpy_tree.specs.declared.tree.Stmt.{Stmt, out-Stmt}
use Rattle.mpy_tree.specs.declared.tree.Arm.{Arm, out-Arm}
use Rattle.mpy_tree.specs.declared.tree.Arms.{Arms}
use Rattle.mpy_tree.specs.declared.tree.Act.{If, Pass, Break, Continue}
use Rattle.mpy_tree.specs.declared.tree.Act.TheVariants.{rolls-If, rolls-Pass, rolls-Break, rolls-Continue}
use Rattle.mpy_tree.specs.declared.tree.Act.TheFolds.{fold-roll-Act, fold_out-Stmt, fold_out-Stmts, fold_out-Arm}
use Rattle.mpy_tree.specs.declared.tree.Act.TheOpen as G
use Rattle.mpy_tree.specs.Syntax.{Action, Branch, Branches, Statement, Block, at, arm}
use Rattle.mpy_tree.specs.Syntax as ast
use Rattle.mpy_tree.specs.View.{term_of, action_of, branch_of, branches_of, statement_of, block, block_of, block_or_none, act_step, arm_step, arms_step, stmt_step, stmts_step}

pub pass_is : action_of Pass ≡ ast.Pass
pass_is =
    ap action_of (sym rolls-Pass)
    ∙ fold-roll-Act Action Branch Branches Statement Block act_step arm_step arms_step stmt_step stmts_step G.Pass

pub break_is : action_of Break ≡ ast.Break
break_is =
    ap action_of (sym rolls-Break)
    ∙ fold-roll-Act Action Branch Branches Statement Block act_step arm_step arms_step stmt_step stmts_step G.Break

pub continue_is : action_of Continue ≡ ast.Continue
continue_is =
    ap action_of (sym rolls-Continue)
    ∙ fold-roll-Act Action Branch Branches Statement Block act_step arm_step arms_step stmt_step stmts_step G.Continue

pub if_is : (arms : Arms) (last : Option Stmts) → action_of (If arms last) ≡ ast.If (branches_of arms) (block_or_none last)
if_is arms None =
    ap action_of (sym (rolls-If arms None))
    ∙ fold-roll-Act Action Branch Branches Statement Block act_step arm_step arms_step stmt_step stmts_step (G.If arms None)
if_is arms (Some body) =
    ap action_of (sym (rolls-If arms (Some body)))
    ∙ fold-roll-Act Action Branch Branches Statement Block act_step arm_step arms_step stmt_step stmts_step (G.If arms (Some body))

pub statement_is : (s : Stmt) → statement_of s ≡ at (out-Stmt s).line (action_of (out-Stmt s).act)
statement_is s = fold_out-Stmt Action Branch Branches Statement Block act_step arm_step arms_step stmt_step stmts_step s

pub branch_is : (a : Arm) → branch_of a ≡ arm (out-Arm a).line (term_of (out-Arm a).test) (block_of (out-Arm a).body)
branch_is a = fold_out-Arm Action Branch Branches Statement Block act_step arm_step arms_step stmt_step stmts_step a

pub block_is : (b : Stmts) → block_of b ≡ block (map statement_of (out-Stmts b).items.items)
block_is b = fold_out-Stmts Action Branch Branches Statement Block act_step arm_step arms_step stmt_step stmts_step b
