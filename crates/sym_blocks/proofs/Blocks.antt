-- Bodies and arms of an `if`, from a place on.
use Rattle.std.proofs.Common.{◌≡◌, ◌∙◌, ◌<◌, ◌+◌, ℕ, zero, suc, List, [], ◌∷◌, drop, length, get_or, Option, Some, None, refl, sym, ap, subst, arith}
use Rattle.mpy_tree.specs.declared.limits.Limits.{Limits}
use Rattle.mpy_tree.specs.Expressions.{Calls}
use Rattle.mpy_tree.specs.Shapes.{arm_shape, arms_shapes, block_shape, last_shapes, statement_shape, statement_shapes}
use Rattle.mpy_tree.specs.Statements.{Ran, run_arms, run_block, then_on}
use Rattle.mpy_tree.specs.Syntax.{Block, Branch, Branches, MaybeBlock, Statement, a_block, arm, arm_and, at, end, no_arms, no_block, step}
use Rattle.mpy_tree.specs.Trees as kind
use Rattle.mpy_tree.specs.Values.{State}
use Rattle.choice_tree.specs.declared.tree.WStmts.{WStmts}
use Rattle.choice_tree.specs.Selections.{plain, plains}
use Rattle.choice_tree.specs.StatementViews.{weighted_else}
use Rattle.choice_tree.specs.WeightedTrees.{Weighted, Weighteds, plainly, no_weighted, weighted_and}
use Rattle.choice_tree.specs.WeightedViews.{one, two}
use Rattle.sym_blocks.specs.Runs.{run_arm, run_statement}
use Rattle.sym_blocks.proofs.Views.{body_is}

-- a list from a place on
pub drop_at : {A : Type 0} (xs : List A) (i : ℕ) (x : A) → i < length xs → x ≡ get_or xs i x → drop i xs ≡ x ∷ drop (i + 1) xs
drop_at [] i x h e = absurd (omega arith)
drop_at (y ∷ xs) zero x h e = ap (λ z. z ∷ xs) (sym e)
drop_at (y ∷ xs) (suc i) x h e =
    let rest : drop i xs ≡ x ∷ drop (i + 1) xs = drop_at xs i x (omega arith) e in
    let n : suc i + 1 ≡ suc (i + 1) = omega arith in
    rest ∙ ap (λ k. x ∷ drop k (y ∷ xs)) (sym n)

-- a statement and those after it
pub record FirstOf (m : ℕ → ℕ) (b : Block) (w : Weighted) (ws : Weighteds) : Type 0 where
  pub first : Statement
  pub rest : Block
  pub is : b ≡ step first rest
  pub plain_first : statement_shape first ≡ plain m w
  pub plain_rest : statement_shapes rest ≡ plains m ws

pub block_more : (m : ℕ → ℕ) (b : Block) (w : Weighted) (ws : Weighteds) → statement_shapes b ≡ plains m (weighted_and w ws) → FirstOf m b w ws
block_more m end w ws e = absurd cc
block_more m (step s rest) w ws e =
    let first : statement_shape s ≡ plain m w = cc in
    let others : statement_shapes rest ≡ plains m ws = cc in
    record { first = s; rest = rest; is = refl; plain_first = first; plain_rest = others }

pub block_end : (m : ℕ → ℕ) (b : Block) → statement_shapes b ≡ plains m no_weighted → b ≡ end
block_end m end e = refl
block_end m (step s rest) e = absurd cc

pub block_step_is : (l : Limits) (calls : Calls) (s : Statement) (rest : Block) → run_block l calls (step s rest) ≡ (λ i. then_on (run_statement l calls s i) (run_block l calls rest))
block_step_is l calls (at line act) rest = refl

pub body_parts : (m : ℕ → ℕ) (b : Block) (ws : Weighteds) → block_shape b ≡ plain m (plainly kind.Block ws) → statement_shapes b ≡ plains m ws
body_parts m b ws e = cc

-- an arm and those after it
pub record FirstArm (m : ℕ → ℕ) (bs : Branches) (last : MaybeBlock) (w : Weighted) (ws : Weighteds) : Type 0 where
  pub first : Branch
  pub rest : Branches
  pub is : bs ≡ arm_and first rest
  pub plain_first : arm_shape first ≡ plain m w
  pub plain_rest : arms_shapes rest (last_shapes last) ≡ plains m ws

arms_of : (m : ℕ → ℕ) (bs : Branches) (last : MaybeBlock) (line : ℕ) (v b : Weighted) (ws : Weighteds)
    → arms_shapes bs (last_shapes last) ≡ plains m (weighted_and (plainly (kind.Arm line) (two v b)) ws)
    → FirstArm m bs last (plainly (kind.Arm line) (two v b)) ws
arms_of m no_arms no_block line v b ws e = absurd cc
arms_of m no_arms (a_block body) line v b ws e = absurd cc
arms_of m (arm_and a rest) last line v b ws e =
    let first : arm_shape a ≡ plain m (plainly (kind.Arm line) (two v b)) = cc in
    let others : arms_shapes rest (last_shapes last) ≡ plains m ws = cc in
    record { first = a; rest = rest; is = refl; plain_first = first; plain_rest = others }

pub arms_more : (m : ℕ → ℕ) (bs : Branches) (last : MaybeBlock) (line : ℕ) (w v b : Weighted) (ws : Weighteds)
    → w ≡ plainly (kind.Arm line) (two v b) → arms_shapes bs (last_shapes last) ≡ plains m (weighted_and w ws) → FirstArm m bs last w ws
arms_more m bs last line w v b ws is e =
    subst (λ (x : Weighted). FirstArm m bs last x ws) (sym is)
    (arms_of m bs last line v b ws (e ∙ ap (λ (x : Weighted). plains m (weighted_and x ws)) is))

pub run_arm_is : (l : Limits) (calls : Calls) (a : Branch) (rest : Branches) (other : Ran) (s : State) → run_arms l calls (arm_and a rest) other s ≡ run_arm l calls a (run_arms l calls rest other) s
run_arm_is l calls (arm line e body) rest other s = refl

-- no arm is left
last_of : (m : ℕ → ℕ) (a : Branch) (rest : Branches) (last : MaybeBlock) (ws : Weighteds) → arms_shapes (arm_and a rest) (last_shapes last) ≡ plains m (one (plainly kind.Block ws)) → ⊥
last_of m (arm line t b) rest last ws e = cc

pub arms_end : (m : ℕ → ℕ) (bs : Branches) (last : MaybeBlock) (w : Option WStmts) → arms_shapes bs (last_shapes last) ≡ plains m (weighted_else w)
    → (bs ≡ no_arms) × (last_shapes last ≡ plains m (weighted_else w))
arms_end m no_arms last w e = (refl, e)
arms_end m (arm_and a rest) last None e = absurd cc
arms_end m (arm_and a rest) last (Some b) e =
    absurd (last_of m a rest last _ (e ∙ ap (λ (x : Weighted). plains m (one x)) (body_is b)))
