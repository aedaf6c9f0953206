-- The weighted trees of bodies, of arms and of functions.
use Rattle.std.proofs.Common.{◌≡◌, ℕ, zero, suc, ◌+◌, ◌<◌, ◌≤◌, List, [], ◌∷◌, map, length, get_or}
use Rattle.std.proofs.Common.{Option, Some, None, slice_get, Vec, Result, Ok, Err, IsErr, IsErrAnd}
use Rattle.std.proofs.Common.{false, refl, ap, sym, ◌∙◌, arith}
use Rattle.std.specs.declared.alloc.Global.{Global}
use Rattle.mpy_tree.specs.declared.tree.Stmt.{Stmt}
use Rattle.mpy_tree.specs.declared.tree.Act.{If as if_act}
use Rattle.mpy_tree.specs.declared.tree.Act.TheVariants.{rolls-If as rolls_if}
use Rattle.mpy_tree.specs.declared.tree.Act.TheOpen as plain_act
use Rattle.mpy_tree.specs.declared.tree.Act.TheFolds.{fold-roll-Act}
use Rattle.mpy_tree.specs.declared.tree.Arm.{Arm}
use Rattle.mpy_tree.specs.declared.tree.Arms.{Arms}
use Rattle.mpy_tree.specs.declared.tree.Stmts.{Stmts}
use Rattle.mpy_tree.specs.Syntax as ast
use Rattle.mpy_tree.specs.Syntax.{Statement, at, Action, Block, Branch, arm, Branches, no_arms}
use Rattle.mpy_tree.specs.Syntax.{arm_and, MaybeBlock, no_block, a_block, MaybeTerm, no_term}
use Rattle.mpy_tree.specs.Syntax.{a_term}
use Rattle.mpy_tree.specs.View.{action_of, statement_of, block, block_or_none, branch_of, branches}
use Rattle.mpy_tree.specs.View.{branches_of, act_step, arm_step, arms_step, stmt_step, stmts_step}
use Rattle.mpy_tree.specs.Trees as kind
use Rattle.mpy_tree.specs.Trees.{Kind, Tree, Trees, node, no_trees, tree_and}
use Rattle.mpy_tree.specs.Shapes.{statement_shape, statement_shapes, action_shape, arm_shape}
use Rattle.mpy_tree.specs.Shapes.{arms_shapes, last_shapes, block_shape, shape}
use Rattle.choice_tree.specs.Contexts.{Setting, Site, elsewhere, at_while, at_for, at_if, Context}
use Rattle.choice_tree.specs.Contexts.{below}
use Rattle.choice_tree.specs.Matching.{is_expression}
use Rattle.choice_tree.specs.Templates.{KeepPrimes}
use Rattle.choice_tree.specs.Growing.{parts_grown}
use Rattle.choice_tree.specs.WeightedTrees.{Weighted, Weighteds, plainly, no_weighted, weighted_and}
use Rattle.choice_tree.specs.WeightedTrees.{numbered, numbered_all, picks, picks_in, size, sizes}
use Rattle.choice_tree.specs.WeightedViews.{one, two, weighteds}
use Rattle.choice_tree.specs.declared.tree.WAct.{If}
use Rattle.choice_tree.specs.declared.tree.WAct.TheVariants.{rolls-If}
use Rattle.choice_tree.specs.declared.tree.WAct.TheOpen as act
use Rattle.choice_tree.specs.declared.tree.WArm.{WArm}
use Rattle.choice_tree.specs.declared.tree.WArms.{WArms, roll-WArms}
use Rattle.choice_tree.specs.declared.tree.WStmt.{WStmt}
use Rattle.choice_tree.specs.declared.tree.WStmts.{WStmts, roll-WStmts}
use Rattle.choice_tree.specs.declared.tree.WAct.TheFolds.{fold-roll-WAct, fold-roll-WArms}
use Rattle.choice_tree.specs.declared.tree.WAct.TheFolds.{fold-roll-WStmts}
use Rattle.choice_tree.specs.StatementViews.{weighted_act, weighted_arm, weighted_arms}
use Rattle.choice_tree.specs.StatementViews.{weighted_body}
use Rattle.choice_tree.specs.StatementViews.{weighted_else, weighted_stmt, arms_before, wact_step}
use Rattle.choice_tree.specs.StatementViews.{warm_step, warms_step, wstmt_step, wstmts_step}
use Rattle.eml_rewrite.specs.declared.counter.Counter.{Counter}
use Rattle.eml_rewrite.specs.declared.error.RewriteError.{RewriteError}
use Rattle.eml_rewrite.specs.declared.error.RewriteError.TheVariants as stop
use Rattle.eml_rewrite.specs.Building.{Took, Built, BuiltAll}
use Rattle.eml_rewrite.specs.Statements.{fully_grown, apart_in, arms_grown}
use Rattle.eml_rewrite.specs.Statements.{body_grown, last_grown, whole_grown}
use Rattle.eml_rewrite.specs.Statements.{action_grown, statement_grown, arm_grown}
use Rattle.eml_rewrite.proofs.Appending.{each_from, append_all}
use Rattle.eml_rewrite.proofs.FullyGrown.{statement_is}

pub some_at : {X : Type 0} (xs : List X) (i : ℕ) (x : X) → i < length xs → x ≡ get_or xs i x
    → Some x ≡ slice_get xs i
some_at [] i x h e = absurd (omega arith)
some_at (y ∷ xs) zero x h e = ap Some e
some_at (y ∷ xs) (suc i) x h e = some_at xs i x (omega arith) e

pub none_at : {X : Type 0} (xs : List X) (i : ℕ) → length xs ≤ i → None ≡ slice_get xs i
none_at [] zero h = refl
none_at [] (suc i) h = refl
none_at (x ∷ xs) zero h = absurd (omega arith)
none_at (x ∷ xs) (suc i) h = none_at xs i (omega arith)

-- a body, wherever it stands
block_parts : (g : Setting) (ts : Trees) (i : ℕ) (c d : Context) → c.scope ≡ d.scope
    → parts_grown g (fully_grown g) ts kind.Block i c ≡ parts_grown g (fully_grown g) ts kind.Block
    i d
block_parts g no_trees i c d e = refl
block_parts g (tree_and t ts) i c d e =
    λ j. weighted_and (fully_grown g elsewhere (apart_in (record {
      scope = e j;
      sharing = c.sharing;
    })) t)
    (block_parts g ts (suc i) c d e j)

pub body_is : (g : Setting) → KeepPrimes g.rules → (site : Site) (c d : Context) (b : Block)
    → d.scope ≡ c.scope → fully_grown g site d (block_shape b) ≡ body_grown g c b
body_is g keeps site c d b e =
    statement_is g keeps site d kind.Block (statement_shapes b) refl
    ∙ ap (plainly kind.Block) (block_parts g (statement_shapes b) 0 d (apart_in c) e)

-- an action, where the statement stands
if_parts : (g : Setting) (c : Context) (line i : ℕ) (ts : Trees) (j : ℕ)
    → parts_grown g (fully_grown g) ts (kind.If line) i (apart_in c)
    ≡ parts_grown g (fully_grown g) ts (kind.If line) j (apart_in c)
if_parts g c line i no_trees j = refl
if_parts g c line i (tree_and t ts) j =
    ap (weighted_and (fully_grown g elsewhere (apart_in c) t)) (if_parts g c line (suc i) ts (suc
    j))

last_parts : (g : Setting) → KeepPrimes g.rules → (c : Context) (line i : ℕ) (last : MaybeBlock)
    → parts_grown g (fully_grown g) (last_shapes last) (kind.If line) i (apart_in c)
    ≡ last_grown g c last
last_parts g keeps c line i no_block = refl
last_parts g keeps c line i (a_block b) = ap one (body_is g keeps elsewhere c (apart_in c) b refl)

arms_parts : (g : Setting) → KeepPrimes g.rules → (c : Context) (line i : ℕ) (bs : Branches)
    (last : MaybeBlock)
    → parts_grown g (fully_grown g) (arms_shapes bs (last_shapes last)) (kind.If line) i (apart_in
    c)
    ≡ arms_grown g c bs (last_grown g c last)
arms_parts g keeps c line i no_arms last = last_parts g keeps c line i last
arms_parts g keeps c line i (arm_and b bs) last =
    ap (weighted_and (fully_grown g elsewhere (apart_in c) (arm_shape b)))
    (arms_parts g keeps c line (suc i) bs last)

pub action_is : (g : Setting) → KeepPrimes g.rules → (c : Context) (a : Action) (line : ℕ)
    → fully_grown g elsewhere (apart_in c) (action_shape a line) ≡ action_grown g c a line
action_is g keeps c (ast.Assign x e) line =
    statement_is g keeps elsewhere (apart_in c) (kind.Assign line x) (kind.one (shape e)) refl
action_is g keeps c (ast.Augment x op e) line =
    statement_is g keeps elsewhere (apart_in c) (kind.Augment line x op) (kind.one (shape e)) refl
action_is g keeps c (ast.Put x i e) line =
    statement_is g keeps elsewhere (apart_in c) (kind.Put line x) (kind.two (shape i) (shape e))
    refl
action_is g keeps c (ast.AugmentAt x i op e) line =
    statement_is g keeps elsewhere (apart_in c) (kind.AugmentAt line x op)
    (kind.two (shape i) (shape e)) refl
action_is g keeps c (ast.Append x e) line =
    statement_is g keeps elsewhere (apart_in c) (kind.Append line x) (kind.one (shape e)) refl
action_is g keeps c (ast.Print e) line =
    statement_is g keeps elsewhere (apart_in c) (kind.Print line) (kind.one (shape e)) refl
action_is g keeps c (ast.Return no_term) line =
    statement_is g keeps elsewhere (apart_in c) (kind.Return line) no_trees refl
action_is g keeps c (ast.Return (a_term e)) line =
    statement_is g keeps elsewhere (apart_in c) (kind.Return line) (kind.one (shape e)) refl
action_is g keeps c ast.Pass line =
    statement_is g keeps elsewhere (apart_in c) (kind.Pass line) no_trees refl
action_is g keeps c ast.Break line =
    statement_is g keeps elsewhere (apart_in c) (kind.Break line) no_trees refl
action_is g keeps c ast.Continue line =
    statement_is g keeps elsewhere (apart_in c) (kind.Continue line) no_trees refl
action_is g keeps c (ast.If arms last) line =
    statement_is g keeps elsewhere (apart_in c) (kind.If line)
    (arms_shapes arms (last_shapes last)) refl
    ∙ ap (plainly (kind.If line)) (arms_parts g keeps c line 0 arms last)
action_is g keeps c (ast.While e body) line =
    statement_is g keeps elsewhere (apart_in c) (kind.While line)
    (kind.two (shape e) (block_shape body)) refl
    ∙ ap (λ b. plainly (kind.While line) (two (whole_grown g c at_while e) b))
    (body_is g keeps at_while c (apart_in c) body refl)
action_is g keeps c (ast.For x e body) line =
    statement_is g keeps elsewhere (apart_in c) (kind.For line x)
    (kind.two (shape e) (block_shape body)) refl
    ∙ ap (λ b. plainly (kind.For line x) (two (whole_grown g c (at_for x) e) b))
    (body_is g keeps (at_for x) c (below g (kind.For line x) 1 (apart_in c)) body refl)

pub statement_grown_is : (g : Setting) → KeepPrimes g.rules → (c : Context) (s : Statement)
    → fully_grown g elsewhere (apart_in c) (statement_shape s) ≡ statement_grown g c s
statement_grown_is g keeps c (at line act) = action_is g keeps c act line

pub arm_is : (g : Setting) → KeepPrimes g.rules → (c : Context) (b : Branch)
    → fully_grown g elsewhere (apart_in c) (arm_shape b) ≡ arm_grown g c b
arm_is g keeps c (arm line e body) =
    statement_is g keeps elsewhere (apart_in c) (kind.Arm line)
    (kind.two (shape e) (block_shape body)) refl
    ∙ ap (λ b. plainly (kind.Arm line) (two (whole_grown g c at_if e) b))
    (body_is g keeps at_if c (apart_in c) body refl)

-- the statements of a body and the arms of an `if`, as lists
abbrev pub statement_tree : Setting → Context → ℕ → Stmt → Weighted
statement_tree g c j s = fully_grown g elsewhere (apart_in c) (statement_shape (statement_of s))

abbrev pub arm_tree : Setting → Context → ℕ → Arm → Weighted
arm_tree g c j a = fully_grown g elsewhere (apart_in c) (arm_shape (branch_of a))

pub statements_each : (g : Setting) (c : Context) (i : ℕ) (xs : List Stmt)
    → parts_grown g (fully_grown g) (statement_shapes (block (map statement_of xs))) kind.Block i
    (apart_in c) ≡ each_from (statement_tree g c) i xs
statements_each g c i [] = refl
statements_each g c i (x ∷ xs) =
    ap (weighted_and (statement_tree g c i x)) (statements_each g c (suc i) xs)

pub arms_each : (g : Setting) (c : Context) (i : ℕ) (xs : List Arm)
    → arms_grown g c (branches (map branch_of xs)) no_weighted ≡ each_from (arm_tree g c) i xs
arms_each g c i [] = refl
arms_each g c i (x ∷ xs) = ap (weighted_and (arm_tree g c i x)) (arms_each g c (suc i) xs)

-- what was made of them
pub body_made : (items : Vec WStmt Global)
    → weighted_body (roll-WStmts (record { items = items }))
    ≡ plainly kind.Block (weighteds (map weighted_stmt items.items))
body_made items =
    fold-roll-WStmts (ℕ → Weighted) Weighted (List Weighted) Weighted Weighted wact_step warm_step
    warms_step wstmt_step wstmts_step (record { items = items })

pub arms_made : (items : Vec WArm Global)
    → weighted_arms (roll-WArms (record { items = items })) ≡ map weighted_arm items.items
arms_made items =
    fold-roll-WArms (ℕ → Weighted) Weighted (List Weighted) Weighted Weighted wact_step warm_step
    warms_step wstmt_step wstmts_step (record { items = items })

pub if_made : (arms : WArms) (last : Option WStmts) (line : ℕ)
    → weighted_act (If arms last) line
    ≡ plainly (kind.If line) (arms_before (weighted_arms arms) (weighted_else last))
if_made arms None line =
    ap (λ a. weighted_act a line) (sym (rolls-If arms None))
    ∙ ap (λ f. f line) (fold-roll-WAct (ℕ → Weighted) Weighted (List Weighted) Weighted Weighted
    wact_step warm_step warms_step wstmt_step wstmts_step (act.If arms None))
if_made arms (Some body) line =
    ap (λ a. weighted_act a line) (sym (rolls-If arms (Some body)))
    ∙ ap (λ f. f line) (fold-roll-WAct (ℕ → Weighted) Weighted (List Weighted) Weighted Weighted
    wact_step warm_step warms_step wstmt_step wstmts_step (act.If arms (Some body)))

-- arms and what stands behind them
arms_split : (g : Setting) (c : Context) (bs : Branches) (ws : Weighteds)
    → arms_grown g c bs ws ≡ append_all (arms_grown g c bs no_weighted) ws
arms_split g c no_arms ws = refl
arms_split g c (arm_and b bs) ws =
    ap (weighted_and (fully_grown g elsewhere (apart_in c) (arm_shape b))) (arms_split g c bs ws)

before_is : (xs : List Weighted) (ws : Weighteds) → arms_before xs ws ≡ append_all (weighteds xs) ws
before_is [] ws = refl
before_is (x ∷ xs) ws = ap (weighted_and x) (before_is xs ws)

sizes_append : (us vs : Weighteds) → sizes (append_all us vs) ≡ sizes us + sizes vs
sizes_append no_weighted bs = omega arith
sizes_append (weighted_and w ws) bs = let r = sizes_append ws bs in omega arith

picks_append : (us vs : Weighteds) → picks_in (append_all us vs) ≡ picks_in us + picks_in vs
picks_append no_weighted bs = omega arith
picks_append (weighted_and w ws) bs = let r = picks_append ws bs in omega arith

numbered_append : (us vs : Weighteds) (n m : ℕ) → m ≡ n + picks_in us
    → numbered_all (append_all us vs) n ≡ append_all (numbered_all us n) (numbered_all vs m)
numbered_append no_weighted vs n m h =
    let e : n ≡ m = omega arith in ap (numbered_all vs) e
numbered_append (weighted_and w ws) vs n m h =
    ap (weighted_and (numbered w n)) (numbered_append ws vs (n + picks w) m (omega arith))

pub both_built : (g : Setting) (c : Context) (bs : Branches) (ws : Weighteds) (xs ys : List
    Weighted)
    (last : Weighteds) (old mid new : Counter)
    → (weighteds xs ≡ numbered_all (arms_grown g c bs no_weighted) old.next)
    × Took old mid (picks_in (arms_grown g c bs no_weighted)) (sizes (arms_grown g c bs
    no_weighted))
    → (last ≡ numbered_all ws mid.next) × Took mid new (picks_in ws) (sizes ws) → ys ≡ xs
    → (arms_before ys last ≡ numbered_all (arms_grown g c bs ws) old.next)
    × Took old new (picks_in (arms_grown g c bs ws)) (sizes (arms_grown g c bs ws))
both_built g c bs ws xs ys last old mid new a b e =
    let arms = arms_grown g c bs no_weighted in
    let next = a.1.next in
    let next' = b.1.next in
    let left = a.1.left in
    let left' = b.1.left in
    let s = sizes_append arms ws in
    let p = picks_append arms ws in
    rw (arms_split g c bs ws) (
      ap (λ zs. arms_before zs last) e
          ∙ before_is xs last
          ∙ (λ i. append_all (a.0 i) (b.0 i))
          ∙ sym (numbered_append arms ws old.next mid.next next),
      record { next = omega arith; left = omega arith },
    )

last_fails : {A B : Type 0} (seen : A → Weighteds) (view : B → Weighteds) (e : RewriteError)
    (g : Setting) (c : Context) (bs : Branches) (ws : Weighteds) (old mid new : Counter) (picks : ℕ)
    → Took old mid picks (sizes (arms_grown g c bs no_weighted)) → BuiltAll seen (Err e) ws mid new
    → BuiltAll view (Err e) (arms_grown g c bs ws) old new
last_fails seen view stop.Large g c bs ws old mid new picks a b =
    let left = a.left in
    let s = sizes_append (arms_grown g c bs no_weighted) ws in
    rw (arms_split g c bs ws) (omega arith)
last_fails seen view stop.NoMemory g c bs ws old mid new picks a b = tt

arms_fail : {A B : Type 0} (seen : A → Weighteds) (view : B → Weighteds) (e : RewriteError)
    (g : Setting) (c : Context) (bs : Branches) (ws : Weighteds) (old new : Counter)
    → BuiltAll seen (Err e) (arms_grown g c bs no_weighted) old new
    → BuiltAll view (Err e) (arms_grown g c bs ws) old new
arms_fail seen view stop.Large g c bs ws old new b =
    let s = sizes_append (arms_grown g c bs no_weighted) ws in
    rw (arms_split g c bs ws) (omega arith)
arms_fail seen view stop.NoMemory g c bs ws old new b = tt

pub arms_stop : {A B : Type 0} (seen : A → Weighteds) (view : B → Weighteds)
    (r : Result B RewriteError) (e : RewriteError) (g : Setting) (c : Context) (bs : Branches)
    (ws : Weighteds) (old new : Counter) → IsErr r × IsErrAnd r (λ y. y ≡ e)
    → BuiltAll seen (Err e) (arms_grown g c bs no_weighted) old new
    → BuiltAll view r (arms_grown g c bs ws) old new
arms_stop seen view (Ok a) e g c bs ws old new f b = absurd (f.1)
arms_stop seen view (Err y) e g c bs ws old new f b =
    rw f.1 (arms_fail seen view e g c bs ws old new b)

last_stops : {A B : Type 0} (seen : A → Weighteds) (view : B → Weighteds)
    (r : Result B RewriteError) (e : RewriteError) (g : Setting) (c : Context) (bs : Branches)
    (ws : Weighteds) (old mid new : Counter) (picks : ℕ) → IsErr r × IsErrAnd r (λ y. y ≡ e)
    → Took old mid picks (sizes (arms_grown g c bs no_weighted)) → BuiltAll seen (Err e) ws mid new
    → BuiltAll view r (arms_grown g c bs ws) old new
last_stops seen view (Ok a) e g c bs ws old mid new picks f a' b = absurd (f.1)
last_stops seen view (Err y) e g c bs ws old mid new picks f a b =
    rw f.1 (last_fails seen view e g c bs ws old mid new picks a b)

-- a statement's node has no size
pub wrapped_stops : {B : Type 0} (all : B → Weighteds) (view : B → Weighted)
    (r : Result B RewriteError) (e : RewriteError) (k : Kind) (ws : Weighteds) (old new : Counter)
    → is_expression k ≡ false → IsErr r × IsErrAnd r (λ y. y ≡ e) → BuiltAll all r ws old new
    → Built view r (plainly k ws) old new
wrapped_stops all view (Ok a) e k ws old new s f b = absurd (f.1)
wrapped_stops all view (Err stop.Large) e k ws old new s f b = rw s (omega arith)
wrapped_stops all view (Err stop.NoMemory) e k ws old new s f b = tt

-- an `if` of which the arms fail, of which the last body does, and one that is built
pub if_arms_stop : {A B : Type 0} (seen : A → Weighteds) (view : B → Weighted)
    (r : Result B RewriteError) (e : RewriteError) (g : Setting) (c : Context) (bs : Branches)
    (ws : Weighteds) (line : ℕ) (old new : Counter) → IsErr r × IsErrAnd r (λ y. y ≡ e)
    → BuiltAll seen (Err e) (arms_grown g c bs no_weighted) old new
    → Built view r (plainly (kind.If line) (arms_grown g c bs ws)) old new
if_arms_stop {B = B} seen view r e g c bs ws line old new f b =
    wrapped_stops (λ (x : B). no_weighted) view r e (kind.If line) (arms_grown g c bs ws) old new
    refl
    f (arms_stop seen (λ (x : B). no_weighted) r e g c bs ws old new f b)

pub if_last_stops : {A B : Type 0} (seen : A → Weighteds) (view : B → Weighted)
    (r : Result B RewriteError) (e : RewriteError) (g : Setting) (c : Context) (bs : Branches)
    (ws : Weighteds) (line : ℕ) (old mid new : Counter) (picks : ℕ)
    → IsErr r × IsErrAnd r (λ y. y ≡ e)
    → Took old mid picks (sizes (arms_grown g c bs no_weighted)) → BuiltAll seen (Err e) ws mid new
    → Built view r (plainly (kind.If line) (arms_grown g c bs ws)) old new
if_last_stops {B = B} seen view r e g c bs ws line old mid new picks f a b =
    wrapped_stops (λ (x : B). no_weighted) view r e (kind.If line) (arms_grown g c bs ws) old new
    refl
    f (last_stops seen (λ (x : B). no_weighted) r e g c bs ws old mid new picks f a b)

pub if_built : (g : Setting) (c : Context) (bs : Branches) (ws : Weighteds) (line : ℕ)
    (arms made : WArms) (last : Option WStmts) (old mid new : Counter)
    → (weighteds (weighted_arms arms) ≡ numbered_all (arms_grown g c bs no_weighted) old.next)
    × Took old mid (picks_in (arms_grown g c bs no_weighted)) (sizes (arms_grown g c bs
    no_weighted))
    → weighted_arms made ≡ weighted_arms arms
    → (weighted_else last ≡ numbered_all ws mid.next) × Took mid new (picks_in ws) (sizes ws)
    → (weighted_act (If made last) line
    ≡ numbered (plainly (kind.If line) (arms_grown g c bs ws)) old.next)
    × Took old new (picks (plainly (kind.If line) (arms_grown g c bs ws)))
    (size (plainly (kind.If line) (arms_grown g c bs ws)))
if_built g c bs ws line arms made last old mid new a same b =
    let both =
    both_built g c bs ws (weighted_arms arms) (weighted_arms made) (weighted_else last) old mid new
    a
    b same in
    let next = both.1.next in
    let left = both.1.left in (
      if_made made last line ∙ ap (plainly (kind.If line)) both.0,
      record { next = omega arith; left = omega arith },
    )

pub if_of : (arms : Arms) (last : Option Stmts)
    → action_of (if_act arms last) ≡ ast.If (branches_of arms) (block_or_none last)
if_of arms None =
    ap action_of (sym (rolls_if arms None))
    ∙ fold-roll-Act Action Branch Branches Statement Block act_step arm_step arms_step stmt_step
    stmts_step (plain_act.If arms None)
if_of arms (Some body) =
    ap action_of (sym (rolls_if arms (Some body)))
    ∙ fold-roll-Act Action Branch Branches Statement Block act_step arm_step arms_step stmt_step
    stmts_step (plain_act.If arms (Some body))
