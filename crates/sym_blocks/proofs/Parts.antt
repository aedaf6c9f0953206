-- What a statement is whose nodes are the plain ones of a weighted statement of a kind.
use Rattle.std.proofs.Common.{◌≡◌, ℕ, List, refl, subst}
use Rattle.mpy_tree.specs.declared.limits.Limits.{Limits}
use Rattle.mpy_tree.specs.declared.operators.ArithOp.{ArithOp}
use Rattle.mpy_tree.specs.Expressions.{Calls}
use Rattle.mpy_tree.specs.Shapes.{arms_shapes, block_shape, last_shapes, shape, shape_and, statement_shape}
use Rattle.mpy_tree.specs.Statements.{Ran, Next, Broke, Continued}
use Rattle.mpy_tree.specs.Syntax as ast
use Rattle.mpy_tree.specs.Syntax.{Block, Branches, MaybeBlock, MaybeTerm, Statement, Term, at}
use Rattle.mpy_tree.specs.Trees as kind
use Rattle.mpy_tree.specs.Trees.{Tree, Trees, node, no_trees}
use Rattle.mpy_tree.specs.Values.{State}
use Rattle.choice_tree.specs.Selections.{plain}
use Rattle.choice_tree.specs.StatementViews.{arms_before}
use Rattle.choice_tree.specs.WeightedTrees.{Weighted, Weighteds, plainly, no_weighted}
use Rattle.choice_tree.specs.WeightedViews.{one, two}
use Rattle.sym_blocks.specs.Runs.{ArePlainTerms, IsPlainIf, IsPlainLoop, IsPlainMaybe, IsPlainTerm, IsRunOf, run_append, run_assign, run_augment, run_augment_at, run_for, run_give, run_if, run_print, run_put, run_statement, run_while}

first_part : (t u : Tree) → kind.one t ≡ kind.one u → t ≡ u
first_part t u e = cc

two_parts : (t u v w : Tree) → kind.two t u ≡ kind.two v w → (t ≡ v) × (u ≡ w)
two_parts t u v w e = let first : t ≡ v = cc in let second : u ≡ w = cc in (first, second)

module _ (l : Limits) (calls : Calls) where
  -- How a statement runs whose tree has this root and these parts. Kinds of other nodes have none.
  abbrev RunsBy : Tree → (State → Ran) → Type 0
  RunsBy (node (kind.Assign line x) ts) run = (t : Term) × (kind.one (shape t) ≡ ts) × (run ≡ run_assign line x l calls t)
  RunsBy (node (kind.Augment line x op) ts) run = (t : Term) × (kind.one (shape t) ≡ ts) × (run ≡ run_augment line x op l calls t)
  RunsBy (node (kind.Put line x) ts) run = (p : Term × Term) × (kind.two (shape p.0) (shape p.1) ≡ ts) × (run ≡ run_put line x l calls p)
  RunsBy (node (kind.AugmentAt line x op) ts) run = (p : Term × Term) × (kind.two (shape p.0) (shape p.1) ≡ ts) × (run ≡ run_augment_at line x op l calls p)
  RunsBy (node (kind.Append line x) ts) run = (t : Term) × (kind.one (shape t) ≡ ts) × (run ≡ run_append line x l calls t)
  RunsBy (node (kind.Print line) ts) run = (t : Term) × (kind.one (shape t) ≡ ts) × (run ≡ run_print line l calls t)
  RunsBy (node (kind.Return line) ts) run = (t : MaybeTerm) × (shape_and t no_trees ≡ ts) × (run ≡ run_give line l calls t)
  RunsBy (node (kind.Pass line) ts) run = run ≡ Next
  RunsBy (node (kind.Break line) ts) run = run ≡ Broke
  RunsBy (node (kind.Continue line) ts) run = run ≡ Continued
  RunsBy (node (kind.If line) ts) run = (p : Branches × MaybeBlock) × (arms_shapes p.0 (last_shapes p.1) ≡ ts) × (run ≡ run_if l calls p)
  RunsBy (node (kind.While line) ts) run = (p : Term × Block) × (kind.two (shape p.0) (block_shape p.1) ≡ ts) × (run ≡ run_while line l calls p)
  RunsBy (node (kind.For line x) ts) run = (p : Term × Block) × (kind.two (shape p.0) (block_shape p.1) ≡ ts) × (run ≡ run_for line x l calls p)
  RunsBy (node k ts) run = ⊥

  runs_by : (a : Statement) → RunsBy (statement_shape a) (run_statement l calls a)
  runs_by (at line (ast.Assign x t)) = (t, refl, refl)
  runs_by (at line (ast.Augment x op t)) = (t, refl, refl)
  runs_by (at line (ast.Put x i t)) = ((i, t), refl, refl)
  runs_by (at line (ast.AugmentAt x i op t)) = ((i, t), refl, refl)
  runs_by (at line (ast.Append x t)) = (t, refl, refl)
  runs_by (at line (ast.Print t)) = (t, refl, refl)
  runs_by (at line (ast.Return t)) = (t, refl, refl)
  runs_by (at line ast.Pass) = refl
  runs_by (at line ast.Break) = refl
  runs_by (at line ast.Continue) = refl
  runs_by (at line (ast.If arms last)) = ((arms, last), refl, refl)
  runs_by (at line (ast.While t b)) = ((t, b), refl, refl)
  runs_by (at line (ast.For x t b)) = ((t, b), refl, refl)

  -- the same by the tree that it is
  runs_as : (a : Statement) (t : Tree) → statement_shape a ≡ t → RunsBy t (run_statement l calls a)
  runs_as a t e = subst (λ (u : Tree). RunsBy u (run_statement l calls a)) e (runs_by a)

  module _ (m : ℕ → ℕ) where
    pub assign_parts : (a : Statement) (line : ℕ) (x : List ℕ) (w : Weighted)
        → statement_shape a ≡ plain m (plainly (kind.Assign line x) (one w))
        → IsRunOf (IsPlainTerm w m) (λ k. run_assign k x l calls) (run_statement l calls a)
    assign_parts a line x w e =
        let by = runs_as a (plain m (plainly (kind.Assign line x) (one w))) e in
        record { line = line; part = by.0; plain = first_part _ _ by.1; same = by.2 }

    pub augment_parts : (a : Statement) (line : ℕ) (x : List ℕ) (o : ArithOp) (w : Weighted)
        → statement_shape a ≡ plain m (plainly (kind.Augment line x o) (one w))
        → IsRunOf (IsPlainTerm w m) (λ k. run_augment k x o l calls) (run_statement l calls a)
    augment_parts a line x o w e =
        let by = runs_as a (plain m (plainly (kind.Augment line x o) (one w))) e in
        record { line = line; part = by.0; plain = first_part _ _ by.1; same = by.2 }

    pub append_parts : (a : Statement) (line : ℕ) (x : List ℕ) (w : Weighted)
        → statement_shape a ≡ plain m (plainly (kind.Append line x) (one w))
        → IsRunOf (IsPlainTerm w m) (λ k. run_append k x l calls) (run_statement l calls a)
    append_parts a line x w e =
        let by = runs_as a (plain m (plainly (kind.Append line x) (one w))) e in
        record { line = line; part = by.0; plain = first_part _ _ by.1; same = by.2 }

    pub print_parts : (a : Statement) (line : ℕ) (w : Weighted)
        → statement_shape a ≡ plain m (plainly (kind.Print line) (one w))
        → IsRunOf (IsPlainTerm w m) (λ k. run_print k l calls) (run_statement l calls a)
    print_parts a line w e =
        let by = runs_as a (plain m (plainly (kind.Print line) (one w))) e in
        record { line = line; part = by.0; plain = first_part _ _ by.1; same = by.2 }

    pub put_parts : (a : Statement) (line : ℕ) (x : List ℕ) (v w : Weighted)
        → statement_shape a ≡ plain m (plainly (kind.Put line x) (two v w))
        → IsRunOf (ArePlainTerms v w m) (λ k. run_put k x l calls) (run_statement l calls a)
    put_parts a line x v w e =
        let by = runs_as a (plain m (plainly (kind.Put line x) (two v w))) e in
        record { line = line; part = by.0; plain = two_parts _ _ _ _ by.1; same = by.2 }

    pub augment_at_parts : (a : Statement) (line : ℕ) (x : List ℕ) (o : ArithOp) (v w : Weighted)
        → statement_shape a ≡ plain m (plainly (kind.AugmentAt line x o) (two v w))
        → IsRunOf (ArePlainTerms v w m) (λ k. run_augment_at k x o l calls) (run_statement l calls a)
    augment_at_parts a line x o v w e =
        let by = runs_as a (plain m (plainly (kind.AugmentAt line x o) (two v w))) e in
        record { line = line; part = by.0; plain = two_parts _ _ _ _ by.1; same = by.2 }

    pub return_parts : (a : Statement) (line : ℕ) (ws : Weighteds)
        → statement_shape a ≡ plain m (plainly (kind.Return line) ws)
        → IsRunOf (IsPlainMaybe ws m) (λ k. run_give k l calls) (run_statement l calls a)
    return_parts a line ws e =
        let by = runs_as a (plain m (plainly (kind.Return line) ws)) e in
        record { line = line; part = by.0; plain = by.1; same = by.2 }

    pub pass_parts : (a : Statement) (line : ℕ)
        → statement_shape a ≡ plain m (plainly (kind.Pass line) no_weighted)
        → run_statement l calls a ≡ Next
    pass_parts a line e = runs_as a (plain m (plainly (kind.Pass line) no_weighted)) e

    pub break_parts : (a : Statement) (line : ℕ)
        → statement_shape a ≡ plain m (plainly (kind.Break line) no_weighted)
        → run_statement l calls a ≡ Broke
    break_parts a line e = runs_as a (plain m (plainly (kind.Break line) no_weighted)) e

    pub continue_parts : (a : Statement) (line : ℕ)
        → statement_shape a ≡ plain m (plainly (kind.Continue line) no_weighted)
        → run_statement l calls a ≡ Continued
    continue_parts a line e = runs_as a (plain m (plainly (kind.Continue line) no_weighted)) e

    pub if_parts : (a : Statement) (line : ℕ) (arms : List Weighted) (ws : Weighteds)
        → statement_shape a ≡ plain m (plainly (kind.If line) (arms_before arms ws))
        → IsRunOf (IsPlainIf arms ws m) (λ k. run_if l calls) (run_statement l calls a)
    if_parts a line arms ws e =
        let by = runs_as a (plain m (plainly (kind.If line) (arms_before arms ws))) e in
        record { line = line; part = by.0; plain = by.1; same = by.2 }

    pub while_parts : (a : Statement) (line : ℕ) (v w : Weighted)
        → statement_shape a ≡ plain m (plainly (kind.While line) (two v w))
        → IsRunOf (IsPlainLoop v w m) (λ k. run_while k l calls) (run_statement l calls a)
    while_parts a line v w e =
        let by = runs_as a (plain m (plainly (kind.While line) (two v w))) e in
        record { line = line; part = by.0; plain = two_parts _ _ _ _ by.1; same = by.2 }

    pub for_parts : (a : Statement) (line : ℕ) (x : List ℕ) (v w : Weighted)
        → statement_shape a ≡ plain m (plainly (kind.For line x) (two v w))
        → IsRunOf (IsPlainLoop v w m) (λ k. run_for k x l calls) (run_statement l calls a)
    for_parts a line x v w e =
        let by = runs_as a (plain m (plainly (kind.For line x) (two v w))) e in
        record { line = line; part = by.0; plain = two_parts _ _ _ _ by.1; same = by.2 }
