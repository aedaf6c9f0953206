-- The least line of a block, found statement by statement.
use Rattle.std.proofs.Common.{◌≡◌, ℕ, ◌+◌, ◌<◌, ◌≤◌, nat_lt, slice_get, Bool, List, [], ◌∷◌, ◌++◌, length, map, drop, get_or, Option, None, Some, ◌⊎◌, inl, inr, sym, ap, ◌∙◌, append_assoc}
use Rattle.std.proofs.lemmas.List.{at_drop_more, at_drop_all}
use Rattle.mpy_tree.specs.Leasts.{lesser, least}
use Rattle.mpy_tree.specs.declared.tree.Stmts.{Stmts, out-Stmts}
use Rattle.mpy_tree.specs.declared.tree.Stmt.{Stmt, out-Stmt}
use Rattle.mpy_tree.specs.declared.tree.Arm.{Arm, out-Arm}
use Rattle.mpy_tree.specs.declared.tree.Arms.{Arms}
use Rattle.mpy_tree.specs.declared.tree.Act.{Act, If, Pass, Break, Continue}
use Rattle.mpy_tree.specs.Syntax.{Action, Block, Statement, Branch, step, arm_and}
use Rattle.mpy_tree.specs.View.{term_of, action_of, block, block_of, block_or_none, branch_of, branches, branches_of, statement_of}
use Rattle.mpy_limits.specs.Limits.{action_lines, arms_lines, block_lines, deeper, is_large, last_lines, line_if, too_deep}
use Rattle.mpy_limits.proofs.Actions.{if_is, pass_is, break_is, continue_is, statement_is, branch_is, block_is}
use Rattle.mpy_tree.proofs.Leasts.{lesser_of_nil, lesser_of_append}

-- the least of two pieces, each found by its step
pub two_pieces : (o p r : Option ℕ) (xs ys : List ℕ) → p ≡ lesser o (least xs) → r ≡ lesser p (least ys) → r ≡ lesser o (least (xs ++ ys))
two_pieces o p r xs ys e f = f ∙ ap (λ q. lesser q (least ys)) e ∙ sym (lesser_of_append o xs ys)

-- a header, then the block below it
pub headed : (o p r : Option ℕ) (d d' : ℕ) (xs : List ℕ) (body : Block) → p ≡ lesser o (least xs) → d' ≡ deeper d → r ≡ lesser p (least (too_deep d' body ++ block_lines d' body)) → r ≡ lesser o (least (xs ++ too_deep (deeper d) body ++ block_lines (deeper d) body))
headed o p r d d' xs body e is f =
    two_pieces o p r xs (too_deep (deeper d) body ++ block_lines (deeper d) body) e (f ∙ ap (λ k. lesser p (least (too_deep k body ++ block_lines k body))) is)
    ∙ ap (λ ys. lesser o (least ys)) (sym (append_assoc xs (too_deep (deeper d) body) (block_lines (deeper d) body)))

abbrev pub lines_of : Option ℕ → ℕ → ℕ → Action → Option ℕ
lines_of o d line act = lesser o (least (action_lines d line act))

pub if_lines : (o p r : Option ℕ) (d line : ℕ) (a : Act) (arms : Arms) (last : Option Stmts) → a ≡ If arms last → p ≡ lesser o (least (arms_lines d (branches_of arms))) → r ≡ lesser p (least (last_lines d (block_or_none last))) → r ≡ lines_of o d line (action_of a)
if_lines o p r d line a arms last is e f =
    two_pieces o p r (arms_lines d (branches_of arms)) (last_lines d (block_or_none last)) e f
    ∙ sym (ap (λ b. lines_of o d line (action_of b)) is ∙ ap (lines_of o d line) (if_is arms last))

-- statements on which no limit is passed
pub no_lines : (o : Option ℕ) (d line : ℕ) (a : Act) → (a ≡ Pass) ⊎ ((a ≡ Break) ⊎ (a ≡ Continue)) → lesser o (least (action_lines d line (action_of a))) ≡ o
no_lines o d line a (inl is) = ap (λ b. lines_of o d line (action_of b)) is ∙ ap (lines_of o d line) pass_is ∙ lesser_of_nil o
no_lines o d line a (inr (inl is)) = ap (λ b. lines_of o d line (action_of b)) is ∙ ap (lines_of o d line) break_is ∙ lesser_of_nil o
no_lines o d line a (inr (inr is)) = ap (λ b. lines_of o d line (action_of b)) is ∙ ap (lines_of o d line) continue_is ∙ lesser_of_nil o

abbrev pub rest_lines : Option ℕ → ℕ → List Stmt → Option ℕ
rest_lines o d ss = lesser o (least (block_lines d (block (map statement_of ss))))

abbrev pub rest_arms_lines : Option ℕ → ℕ → List Arm → Option ℕ
rest_arms_lines o d bs = lesser o (least (arms_lines d (branches (map branch_of bs))))

-- one statement more
pub block_more : (o p : Option ℕ) (d : ℕ) (ss : List Stmt) (i : ℕ) (s : Stmt) → i < length ss → s ≡ get_or ss i s → p ≡ lines_of o d (out-Stmt s).line (action_of (out-Stmt s).act) → rest_lines o d (drop i ss) ≡ rest_lines p d (drop (i + 1) ss)
block_more o p d ss i s h is e =
    let rest = drop (i + 1) ss in
    at_drop_more (rest_lines o d) ss i s h
    ∙ ap (λ q. rest_lines o d (q ∷ rest)) (sym is)
    ∙ ap (λ (q : Statement). lesser o (least (block_lines d (step q (block (map statement_of rest)))))) (statement_is s)
    ∙ lesser_of_append o (action_lines d (out-Stmt s).line (action_of (out-Stmt s).act)) (block_lines d (block (map statement_of rest)))
    ∙ ap (λ q. rest_lines q d rest) (sym e)

pub block_end : (o : Option ℕ) (d : ℕ) (ss : List Stmt) (i : ℕ) → length ss ≤ i → rest_lines o d (drop i ss) ≡ o
block_end o d ss i h = at_drop_all (rest_lines o d) ss i h ∙ lesser_of_nil o

abbrev pub arm_lines : ℕ → Bool → ℕ → Stmts → List ℕ
arm_lines d b line body = line_if b line ++ too_deep (deeper d) (block_of body) ++ block_lines (deeper d) (block_of body)

-- one arm more
pub arms_more : (o p : Option ℕ) (d : ℕ) (bs : List Arm) (i : ℕ) (b : Arm) (t : Bool) → i < length bs → b ≡ get_or bs i b → t ≡ is_large (term_of (out-Arm b).test) → p ≡ lesser o (least (arm_lines d t (out-Arm b).line (out-Arm b).body)) → rest_arms_lines o d (drop i bs) ≡ rest_arms_lines p d (drop (i + 1) bs)
arms_more o p d bs i b t h is large e =
    let rest = drop (i + 1) bs in
    at_drop_more (rest_arms_lines o d) bs i b h
    ∙ ap (λ q. rest_arms_lines o d (q ∷ rest)) (sym is)
    ∙ ap (λ (q : Branch). lesser o (least (arms_lines d (arm_and q (branches (map branch_of rest)))))) (branch_is b)
    ∙ lesser_of_append o (arm_lines d (is_large (term_of (out-Arm b).test)) (out-Arm b).line (out-Arm b).body) (arms_lines d (branches (map branch_of rest)))
    ∙ ap (λ q. rest_arms_lines q d rest) (ap (λ q. lesser o (least (arm_lines d q (out-Arm b).line (out-Arm b).body))) (sym large) ∙ sym e)

pub arms_end : (o : Option ℕ) (d : ℕ) (bs : List Arm) (i : ℕ) → length bs ≤ i → rest_arms_lines o d (drop i bs) ≡ o
arms_end o d bs i h = at_drop_all (rest_arms_lines o d) bs i h ∙ lesser_of_nil o

-- no `else`
pub no_last : (o : Option ℕ) (d : ℕ) (last : Option Stmts) → last ≡ None → o ≡ lesser o (least (last_lines d (block_or_none last)))
no_last o d last is = sym (ap (λ b. lesser o (least (last_lines d (block_or_none b)))) is ∙ lesser_of_nil o)

-- what an inner block begins with
pub begins_with_none : (o : Option ℕ) (d : ℕ) (body : Stmts) (ss : List Stmt) → ss ≡ (out-Stmts body).items.items → slice_get ss 0 ≡ None → o ≡ lesser o (least (too_deep d (block_of body)))
begins_with_none o d body [] is e =
    sym (ap (λ b. lesser o (least (too_deep d b))) (block_is body)
    ∙ ap (λ ss. lesser o (least (too_deep d (block (map statement_of ss))))) (sym is)
    ∙ lesser_of_nil o)
begins_with_none o d body (s ∷ ss) is e = cc

pub begins_with : (o p : Option ℕ) (d : ℕ) (body : Stmts) (ss : List Stmt) (s : Stmt) → ss ≡ (out-Stmts body).items.items → slice_get ss 0 ≡ Some s → p ≡ lesser o (least (line_if (nat_lt 8 d) (out-Stmt s).line)) → p ≡ lesser o (least (too_deep d (block_of body)))
begins_with o p d body [] s is e f = cc
begins_with o p d body (first ∷ ss) s is e f =
    let same : first ≡ s = cc in
    sym (ap (λ b. lesser o (least (too_deep d b))) (block_is body)
    ∙ ap (λ ss. lesser o (least (too_deep d (block (map statement_of ss))))) (sym is)
    ∙ ap (λ (q : Statement). lesser o (least (too_deep d (step q (block (map statement_of ss)))))) (statement_is first)
    ∙ ap (λ q. lesser o (least (line_if (nat_lt 8 d) (out-Stmt q).line))) same
    ∙ sym f)
