-- Programs whose trees are a program's and a rewriting's are alike.
use Rattle.std.proofs.Common.{◌≡◌, ℕ, suc, List, [], ◌∷◌, None, refl}
use Rattle.mpy_tree.specs.Shapes.{action_shape, arms_shapes, block_shape, last_shapes}
use Rattle.mpy_tree.specs.Shapes.{routine_shapes, statement_shapes}
use Rattle.mpy_tree.specs.Syntax.{Action, Block, Branches, MaybeBlock, Routine, a_block, a_term}
use Rattle.mpy_tree.specs.Syntax.{arm, arm_and, at, end, no_arms, no_block, no_term, step}
use Rattle.mpy_tree.specs.Syntax as ast
use Rattle.mpy_tree.specs.Trees as kind
use Rattle.mpy_tree.specs.Trees.{Kind}
use Rattle.choice_tree.specs.Contexts.{Context, Setting, below, outermost}
use Rattle.choice_tree.specs.Rewriting.{Edit, IsRewriting}
use Rattle.choice_tree.specs.Typing.{Scope, type_of}
use Rattle.rewriting_laws.proofs.Alike.{AlikeAct, AlikeArms, AlikeBlock, AlikeFrom, AlikeLast}
use Rattle.rewriting_laws.proofs.Alike.{append, assign, augment, augment_at, branch, done, give}
use Rattle.rewriting_laws.proofs.Alike.{give_none, go_on, go_over, last, leave, next, no_arm}
use Rattle.rewriting_laws.proofs.Alike.{no_last, one_arm, pass, print, put, repeat}
use Rattle.rewriting_laws.proofs.Becoming.{AllBecome, Becomes, NodeBecomes, node_becomes}

-- a statement has no type
untyped : (σ : Scope) (x : Action) (m : ℕ) → type_of σ (action_shape x m) ≡ None
untyped σ (ast.Assign x e) m = refl
untyped σ (ast.Augment x op e) m = refl
untyped σ (ast.Put x i e) m = refl
untyped σ (ast.AugmentAt x i op e) m = refl
untyped σ (ast.Append x e) m = refl
untyped σ (ast.Print e) m = refl
untyped σ (ast.Return e) m = refl
untyped σ ast.Pass m = refl
untyped σ ast.Break m = refl
untyped σ ast.Continue m = refl
untyped σ (ast.If arms l) m = refl
untyped σ (ast.While e a) m = refl
untyped σ (ast.For x e a) m = refl

-- the statements of a body
statements_become : (g : Setting) (c : Context) (a b : Block)
    → Becomes g c (block_shape a) (block_shape b)
    → AllBecome g kind.Block 0 c (statement_shapes a) (statement_shapes b)
statements_become g c a b h = (node_becomes h.4 refl).1

-- the last bodies of an `if`, behind so many arms
abbrev LastBecomes : Setting → Context → ℕ → MaybeBlock → MaybeBlock → Type 0
LastBecomes g c m l q =
    (i : ℕ) × AllBecome g (kind.If m) i c (last_shapes l) (last_shapes q)

mutual
  acts_alike : (g : Setting) (c : Context) (x : Action) (m : ℕ) (y : Action) (n : ℕ)
      → NodeBecomes g c (action_shape x m) (action_shape y n)
      → (n ≡ m) × AlikeAct g c.scope x y
  acts_alike g c (ast.Assign x e) m (ast.Assign y f) n h =
      let k = h.0 in
      let name : y ≡ x = cc in
      (cc, rw name (assign h.1.0))
  acts_alike g c (ast.Augment x o e) m (ast.Augment y q f) n h =
      let k = h.0 in
      let name : y ≡ x = cc in
      let op : q ≡ o = cc in
      (cc, rw (name, op) (augment h.1.0))
  acts_alike g c (ast.Put x i e) m (ast.Put y j f) n h =
      let k = h.0 in
      let name : y ≡ x = cc in
      (cc, rw name (put h.1.0 h.1.1.0))
  acts_alike g c (ast.AugmentAt x i o e) m (ast.AugmentAt y j q f) n h =
      let k = h.0 in
      let name : y ≡ x = cc in
      let op : q ≡ o = cc in
      (cc, rw (name, op) (augment_at h.1.0 h.1.1.0))
  acts_alike g c (ast.Append x e) m (ast.Append y f) n h =
      let k = h.0 in
      let name : y ≡ x = cc in
      (cc, rw name (append h.1.0))
  acts_alike g c (ast.Print e) m (ast.Print f) n h = let k = h.0 in (cc, print h.1.0)
  acts_alike g c (ast.Return no_term) m (ast.Return no_term) n h =
      let k = h.0 in (cc, give_none)
  acts_alike g c (ast.Return (a_term e)) m (ast.Return (a_term f)) n h =
      let k = h.0 in (cc, give h.1.0)
  acts_alike g c (ast.Return no_term) m (ast.Return (a_term f)) n h = absurd h.1
  acts_alike g c (ast.Return (a_term e)) m (ast.Return no_term) n h = absurd h.1
  acts_alike g c ast.Pass m ast.Pass n h = let k = h.0 in (cc, pass)
  acts_alike g c ast.Break m ast.Break n h = let k = h.0 in (cc, leave)
  acts_alike g c ast.Continue m ast.Continue n h = let k = h.0 in (cc, go_on)
  acts_alike g c (ast.If xs l) m (ast.If ys q) n h =
      let k = h.0 in
      let parts = arms_alike g c m xs l ys q 0 h.1 in
      (cc, branch parts.0 (last_alike g c m l q parts.1.0 parts.1.1))
  acts_alike g c (ast.While e a) m (ast.While f b) n h =
      let k = h.0 in
      let d = below g (kind.While m) 1 c in
      (cc, repeat h.1.0 (blocks_alike g d a b 0 (statements_become g d a b h.1.1.0)))
  acts_alike g c (ast.For x e a) m (ast.For y f b) n h =
      let k = h.0 in
      let name : y ≡ x = cc in
      let d = below g (kind.For m x) 1 c in
      let body = blocks_alike g d a b 0 (statements_become g d a b h.1.1.0) in
      (cc, rw name (go_over h.1.0 body))
  acts_alike g c _ m _ n h = let k = h.0 in absurd cc

  blocks_alike : (g : Setting) (c : Context) (a b : Block) (i : ℕ)
      → AllBecome g kind.Block i c (statement_shapes a) (statement_shapes b)
      → AlikeBlock g c.scope a b
  blocks_alike g c end end i h = done
  blocks_alike g c end (step s b) i h = absurd h
  blocks_alike g c (step s a) end i h = absurd h
  blocks_alike g c (step (at m x) a) (step (at n y) b) i h =
      let d = below g kind.Block i c in
      let first = acts_alike g d x m y n (node_becomes h.0.4 (untyped c.scope x m)) in
      rw first.0 (next first.1 (blocks_alike g c a b (suc i) h.1))

  -- the arms, and what stands behind them
  arms_alike : (g : Setting) (c : Context) (m : ℕ) (xs : Branches) (l : MaybeBlock)
      (ys : Branches) (q : MaybeBlock) (i : ℕ)
      → AllBecome g (kind.If m) i c (arms_shapes xs (last_shapes l))
      (arms_shapes ys (last_shapes q))
      → AlikeArms g c.scope xs ys × LastBecomes g c m l q
  arms_alike g c m no_arms l no_arms q i h = (no_arm, (i, h))
  arms_alike g c m no_arms no_block (arm_and (arm n f b) ys) q i h = absurd h
  arms_alike g c m no_arms (a_block a) (arm_and (arm n f b) ys) q i h =
      let k = (node_becomes h.0.4 refl).0 in absurd cc
  arms_alike g c m (arm_and (arm n e a) xs) l no_arms no_block i h = absurd h
  arms_alike g c m (arm_and (arm n e a) xs) l no_arms (a_block b) i h =
      let k = (node_becomes h.0.4 refl).0 in absurd cc
  arms_alike g c m (arm_and (arm n e a) xs) l (arm_and (arm j f b) ys) q i h =
      let d = below g (kind.If m) i c in
      let first = node_becomes h.0.4 refl in
      let k = first.0 in
      let line : j ≡ n = cc in
      let inner = below g (kind.Arm n) 1 d in
      let body = blocks_alike g inner a b 0 (statements_become g inner a b first.1.1.0) in
      let rest = arms_alike g c m xs l ys q (suc i) h.1 in
      (rw line (one_arm first.1.0 body rest.0), rest.1)

  last_alike : (g : Setting) (c : Context) (m : ℕ) (l q : MaybeBlock) (i : ℕ)
      → AllBecome g (kind.If m) i c (last_shapes l) (last_shapes q) → AlikeLast g c.scope l q
  last_alike g c m no_block no_block i h = no_last
  last_alike g c m no_block (a_block b) i h = absurd h
  last_alike g c m (a_block a) no_block i h = absurd h
  last_alike g c m (a_block a) (a_block b) i h =
      let d = below g (kind.If m) i c in
      last (blocks_alike g d a b 0 (statements_become g d a b h.0))

routines_alike : (g : Setting) (c : Context) (rs qs : List Routine) (i : ℕ)
    → AllBecome g kind.Program i c (routine_shapes rs) (routine_shapes qs) → AlikeFrom g i rs qs
routines_alike g c [] [] i h = tt
routines_alike g c [] (q ∷ qs) i h = absurd h
routines_alike g c (r ∷ rs) [] i h = absurd h
routines_alike g c (r ∷ rs) (q ∷ qs) i h =
    let d = below g kind.Program i c in
    let k = kind.Function r.line r.name r.params in
    let inner = node_becomes h.0.4 refl in
    let head = inner.0 in
    let e = below g k 0 d in (
      record {
        line = cc;
        name = cc;
        params = cc;
        body =
            blocks_alike g e r.body q.body 0 (statements_become g e r.body q.body inner.1.0);
      },
      routines_alike g c rs qs (suc i) h.1,
    )

pub rewritings_alike : (g : Setting) (s p : List Routine) (n : ℕ) (es : List Edit)
    → IsRewriting g s p n es → AlikeFrom g 0 s p
rewritings_alike g s p n es h =
    routines_alike g (outermost g) s p 0 (node_becomes h refl).1
