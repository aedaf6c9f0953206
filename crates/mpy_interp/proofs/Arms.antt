-- What the statements of a tree are, and what they do then.
use Rattle.std.proofs.Common.{◌≡◌, ℕ, List, Option, sym, ap, subst, ◌∙◌}
use Rattle.std.specs.declared.result.Result.{Result}
use Rattle.mpy_tree.specs.declared.limits.Limits.{Limits}
use Rattle.mpy_tree.specs.declared.operators.ArithOp.{ArithOp}
use Rattle.mpy_tree.specs.Values.{State}
use Rattle.mpy_tree.specs.Expressions.{Calls}
use Rattle.mpy_tree.specs.Statements.{run_action}
use Rattle.mpy_tree.specs.declared.tree.Expr.{Expr}
use Rattle.mpy_tree.specs.declared.tree.Stmts.{Stmts}
use Rattle.mpy_tree.specs.declared.tree.Act.{Act, Assign, Augment, Put, AugmentAt, Append, Print, Return, While, For}
use Rattle.mpy_tree.specs.declared.tree.Act.TheVariants.{rolls-Assign, rolls-Augment, rolls-Put, rolls-AugmentAt, rolls-Append, rolls-Print, rolls-Return, rolls-While, rolls-For}
use Rattle.mpy_tree.specs.declared.tree.Act.TheFolds.{fold-roll-Act}
use Rattle.mpy_tree.specs.declared.tree.Act.TheOpen as G
use Rattle.mpy_tree.specs.Syntax.{Action, Branch, Branches, Statement, Block}
use Rattle.mpy_tree.specs.Syntax as ast
use Rattle.mpy_tree.specs.View.{term_of, maybe_term, action_of, block_of, act_step, arm_step, arms_step, stmt_step, stmts_step}
use Rattle.mpy_interp.specs.declared.completion.Completion.{Completion}
use Rattle.value_operations.specs.declared.stop.Stop.{Stop}
use Rattle.mpy_interp.specs.Completions.{EndsAs}

pub assign_is : (x : List ℕ) (e : Expr) → action_of (Assign x e) ≡ ast.Assign x (term_of e)
assign_is x e =
    ap action_of (sym (rolls-Assign x e))
    ∙ fold-roll-Act Action Branch Branches Statement Block act_step arm_step arms_step stmt_step stmts_step (G.Assign x e)

pub augment_is : (x : List ℕ) (op : ArithOp) (e : Expr) → action_of (Augment x op e) ≡ ast.Augment x op (term_of e)
augment_is x op e =
    ap action_of (sym (rolls-Augment x op e))
    ∙ fold-roll-Act Action Branch Branches Statement Block act_step arm_step arms_step stmt_step stmts_step (G.Augment x op e)

pub put_is : (x : List ℕ) (i e : Expr) → action_of (Put x i e) ≡ ast.Put x (term_of i) (term_of e)
put_is x i e =
    ap action_of (sym (rolls-Put x i e))
    ∙ fold-roll-Act Action Branch Branches Statement Block act_step arm_step arms_step stmt_step stmts_step (G.Put x i e)

pub augment_at_is : (x : List ℕ) (i : Expr) (op : ArithOp) (e : Expr) → action_of (AugmentAt x i op e) ≡ ast.AugmentAt x (term_of i) op (term_of e)
augment_at_is x i op e =
    ap action_of (sym (rolls-AugmentAt x i op e))
    ∙ fold-roll-Act Action Branch Branches Statement Block act_step arm_step arms_step stmt_step stmts_step (G.AugmentAt x i op e)

pub append_is : (x : List ℕ) (e : Expr) → action_of (Append x e) ≡ ast.Append x (term_of e)
append_is x e =
    ap action_of (sym (rolls-Append x e))
    ∙ fold-roll-Act Action Branch Branches Statement Block act_step arm_step arms_step stmt_step stmts_step (G.Append x e)

pub print_is : (e : Expr) → action_of (Print e) ≡ ast.Print (term_of e)
print_is e =
    ap action_of (sym (rolls-Print e))
    ∙ fold-roll-Act Action Branch Branches Statement Block act_step arm_step arms_step stmt_step stmts_step (G.Print e)

pub return_is : (e : Option Expr) → action_of (Return e) ≡ ast.Return (maybe_term e)
return_is e =
    ap action_of (sym (rolls-Return e))
    ∙ fold-roll-Act Action Branch Branches Statement Block act_step arm_step arms_step stmt_step stmts_step (G.Return e)

pub while_is : (e : Expr) (body : Stmts) → action_of (While e body) ≡ ast.While (term_of e) (block_of body)
while_is e body =
    ap action_of (sym (rolls-While e body))
    ∙ fold-roll-Act Action Branch Branches Statement Block act_step arm_step arms_step stmt_step stmts_step (G.While e body)

pub for_is : (x : List ℕ) (e : Expr) (body : Stmts) → action_of (For x e body) ≡ ast.For x (term_of e) (block_of body)
for_is x e body =
    ap action_of (sym (rolls-For x e body))
    ∙ fold-roll-Act Action Branch Branches Statement Block act_step arm_step arms_step stmt_step stmts_step (G.For x e body)

-- a statement ends as the action that it is
pub ends_as : (l : Limits) (calls : Calls) (a b : Act) (n : Action) (line : ℕ) (s t : State) (r : Result Completion Stop) → a ≡ b → action_of b ≡ n → EndsAs r t (run_action l calls n line s) → EndsAs r t (run_action l calls (action_of a) line s)
ends_as l calls a b n line s t r is e h = subst (λ (m : Action). EndsAs r t (run_action l calls m line s)) (sym (ap action_of is ∙ e)) h
