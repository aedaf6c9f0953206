-- Nodes of expressions, and their parts as lists.
use Rattle.std.proofs.Common.{◌≡◌, ℕ, zero, suc, ◌+◌, ◌<◌, ◌≤◌, true, false}
use Rattle.std.proofs.Common.{List, [], ◌∷◌, length, map, Result, Ok, Err, IsErr}
use Rattle.std.proofs.Common.{IsErrAnd, Some, slice_get, refl, ap, sym, subst, ◌∙◌}
use Rattle.std.proofs.Common.{arith}
use Rattle.mpy_tree.specs.Syntax as ast
use Rattle.mpy_tree.specs.Syntax.{Term}
use Rattle.mpy_tree.specs.Shapes.{shape}
use Rattle.mpy_tree.specs.Trees as kind
use Rattle.mpy_tree.specs.Trees.{Kind, Tree, Trees, node, no_trees, tree_and, leaf, tree_depth}
use Rattle.mpy_tree.specs.Trees.{most_depth}
use Rattle.choice_tree.specs.declared.head.Head.{Head}
use Rattle.choice_tree.specs.declared.head.Head.TheVariants as head
use Rattle.choice_tree.specs.Heads.{HasParts, head_kind, root}
use Rattle.choice_tree.specs.Contexts.{Setting, Context, Sharing, elsewhere, site_below, below}
use Rattle.choice_tree.specs.Contexts.{scope_below, sharing_below, copies}
use Rattle.choice_tree.specs.Matching.{Bindings, is_expression}
use Rattle.choice_tree.specs.Templates.{Template}
use Rattle.choice_tree.specs.declared.tree.WExpr.{WExpr}
use Rattle.choice_tree.specs.WeightedViews.{weighted_of, weighteds}
use Rattle.choice_tree.specs.Drafts.{Draft, Drafts, as_is, no_drafts, filled}
use Rattle.choice_tree.specs.Drafts.{filled_all}
use Rattle.choice_tree.specs.Rewriting.{written, written_all}
use Rattle.choice_tree.specs.Typing.{Scope, copy_of}
use Rattle.choice_tree.specs.Growing.{Growing, node_grown, parts_grown, draft_grown, drafts_grown}
use Rattle.choice_tree.specs.WeightedTrees.{Weighted, Weighteds, plainly, weighted_and}
use Rattle.choice_tree.specs.WeightedTrees.{lifted, lifted_all, size, sizes, picks, picks_in}
use Rattle.choice_tree.specs.WeightedTrees.{numbered, numbered_all}
use Rattle.eml_match.specs.Parts.{parts, tree_list, template_parts}
use Rattle.eml_match.specs.Resolutions.{Locals, resolution}
use Rattle.eml_instances.specs.Resolving.{drafts, each_resolved, part_number, parts_resolved}
use Rattle.eml_rewrite.specs.declared.counter.Counter.{Counter}
use Rattle.eml_rewrite.specs.declared.error.RewriteError.{RewriteError}
use Rattle.eml_rewrite.specs.declared.error.RewriteError.TheVariants as stop
use Rattle.eml_rewrite.specs.Building.{Took, Built, BuiltAll}
use Rattle.eml_rewrite.specs.Parts.{written_parts, kept_parts, draft_parts_grown}
use Rattle.eml_rewrite.proofs.Appending.{each_from}

pub head_is_expression : (h : Head) → is_expression (head_kind h) ≡ true
head_is_expression (head.Int n) = refl
head_is_expression (head.Bool b) = refl
head_is_expression (head.Text t) = refl
head_is_expression (head.Name x) = refl
head_is_expression head.List = refl
head_is_expression head.Neg = refl
head_is_expression head.Not = refl
head_is_expression (head.Arith op) = refl
head_is_expression (head.Cmp op) = refl
head_is_expression head.And = refl
head_is_expression head.Or = refl
head_is_expression head.Cond = refl
head_is_expression head.Index = refl
head_is_expression (head.Slice from to) = refl
head_is_expression (head.Call f) = refl

head_site : (h : Head) → site_below (head_kind h) ≡ elsewhere
head_site (head.Int n) = refl
head_site (head.Bool b) = refl
head_site (head.Text t) = refl
head_site (head.Name x) = refl
head_site head.List = refl
head_site head.Neg = refl
head_site head.Not = refl
head_site (head.Arith op) = refl
head_site (head.Cmp op) = refl
head_site head.And = refl
head_site head.Or = refl
head_site head.Cond = refl
head_site head.Index = refl
head_site (head.Slice from to) = refl
head_site (head.Call f) = refl

head_scope : (g : Setting) (h : Head) (i : ℕ) (σ : Scope) → scope_below g (head_kind h) i σ ≡ σ
head_scope g (head.Int n) i σ = refl
head_scope g (head.Bool b) i σ = refl
head_scope g (head.Text t) i σ = refl
head_scope g (head.Name x) i σ = refl
head_scope g head.List i σ = refl
head_scope g head.Neg i σ = refl
head_scope g head.Not i σ = refl
head_scope g (head.Arith op) i σ = refl
head_scope g (head.Cmp op) i σ = refl
head_scope g head.And i σ = refl
head_scope g head.Or i σ = refl
head_scope g head.Cond i σ = refl
head_scope g head.Index i σ = refl
head_scope g (head.Slice from to) i σ = refl
head_scope g (head.Call f) i σ = refl

pub site_of_part : (h : Head) (k : Kind) → head_kind h ≡ k → site_below k ≡ elsewhere
site_of_part h k e = ap site_below (sym e) ∙ head_site h

-- where the part of an expression stands
pub part_stands : (g : Setting) (h : Head) (k : Kind) (i : ℕ) (σ : Scope) (s t : Sharing)
    → head_kind h ≡ k → t ≡ sharing_below (head_kind h) i s
    → below g k i (record { scope = σ; sharing = s }) ≡ record { scope = σ; sharing = t }
part_stands g h k i σ s t e b =
    ap (λ j. below g j i (record { scope = σ; sharing = s })) (sym e)
    ∙ (λ j. record { scope = head_scope g h i σ j; sharing = sym b j })

-- a node whose parts are built
pub node_built : (h : Head) (tree : Weighted) (ws built : Weighteds) (w : Weighted)
    (old mid new : Counter) → tree ≡ plainly (head_kind h) ws → mid.next ≡ old.next
    → old.left ≡ mid.left + 1
    → (built ≡ numbered_all ws mid.next) × Took mid new (picks_in ws) (sizes ws)
    → w ≡ plainly (head_kind h) built
    → (w ≡ numbered tree old.next) × Took old new (picks tree) (size tree)
node_built h tree ws built w old mid new t n l b e =
    let taken = b.1.left in
    let next = b.1.next in
    rw t (
      e
          ∙ (λ i. plainly (head_kind h) (b.0 i))
          ∙ ap (λ k. plainly (head_kind h) (numbered_all ws k)) n,
      record {
        next = omega arith;
        left =
            rw (head_is_expression h) (omega arith);
      },
    )

parts_not_built : {A B : Type 0} (seen : A → Weighteds) (view : B → Weighted) (h : Head) (e :
    RewriteError)
    (ws : Weighteds) (old mid new : Counter) → old.left ≡ mid.left + 1
    → BuiltAll seen (Err e) ws mid new → Built view (Err e) (plainly (head_kind h) ws) old new
parts_not_built seen view h stop.Large ws old mid new l b =
    rw (head_is_expression h) (omega arith)
parts_not_built seen view h stop.NoMemory ws old mid new l b = tt

-- its parts aren't built
pub node_stops : {A B : Type 0} (seen : A → Weighteds) (view : B → Weighted) (r : Result B
    RewriteError)
    (e : RewriteError) (h : Head) (tree : Weighted) (ws : Weighteds) (old mid new : Counter)
    → IsErr r × IsErrAnd r (λ y. y ≡ e) → tree ≡ plainly (head_kind h) ws
    → old.left ≡ mid.left + 1 → BuiltAll seen (Err e) ws mid new → Built view r tree old new
node_stops seen view (Ok a) e h tree ws old mid new f t l b = absurd (f.1)
node_stops seen view (Err y) e h tree ws old mid new f t l b =
    rw (f.1, t) (parts_not_built seen view h e ws old mid new l b)

not_taken : {B : Type 0} (view : B → Weighted) (h : Head) (e : RewriteError) (ws : Weighteds)
    (old new : Counter) → (e ≡ stop.Large → old.left < 1)
    → Built view (Err e) (plainly (head_kind h) ws) old new
not_taken view h stop.Large ws old new l =
    let none : old.left < 1 = l refl in rw (head_is_expression h) (omega arith)
not_taken view h stop.NoMemory ws old new l = tt

-- the node itself isn't
pub node_not_taken : {B : Type 0} (view : B → Weighted) (r : Result B RewriteError) (e :
    RewriteError) (h : Head)
    (tree : Weighted) (ws : Weighteds) (old new : Counter)
    → IsErr r × IsErrAnd r (λ y. y ≡ e) → tree ≡ plainly (head_kind h) ws
    → (e ≡ stop.Large → old.left < 1) → Built view r tree old new
node_not_taken view (Ok a) e h tree ws old new f t l = absurd (f.1)
node_not_taken view (Err y) e h tree ws old new f t l =
    rw (f.1, t) (not_taken view h e ws old new l)

-- a term, where it is written, where it stays, and in a resolution
pub written_is_node : (g : Setting) (c : Context) (t : Tree) (k : Kind) → copies c t ≡ false
    → k ≡ root t → lifted (written g t c) ≡ plainly k (written_parts g c t)
written_is_node g c (node j ts) k h e = rw (h, e) refl

pub kept_is_node : (g : Setting) (grow : Growing) (c : Context) (t : Tree) (k : Kind)
    → copies c t ≡ false → k ≡ root t → node_grown g grow c t ≡ plainly k (kept_parts g grow c t)
kept_is_node g grow c (node j ts) k h e = rw (h, e) refl

pub draft_is_node : (g : Setting) (grow : Growing) (c : Context) (d : Draft) (k : Kind) (ds :
    Drafts)
    → d ≡ as_is k ds → copies c (filled (as_is k ds)) ≡ false
    → draft_grown g grow d c ≡ plainly k (draft_parts_grown g grow c d)
draft_is_node g grow c d k ds e h = rw (e, h) refl

pub written_is_copy : (g : Setting) (c : Context) (t : Tree) → copies c t ≡ true
    → lifted (written g t c) ≡ lifted (copy_of t)
written_is_copy g c (node j ts) h = rw h refl

pub kept_is_copy : (g : Setting) (grow : Growing) (c : Context) (t : Tree) → copies c t ≡ true
    → node_grown g grow c t ≡ lifted (copy_of t)
kept_is_copy g grow c (node j ts) h = rw h refl

pub draft_is_copy : (g : Setting) (grow : Growing) (c : Context) (d : Draft) (k : Kind)
    (ds : Drafts) → d ≡ as_is k ds → copies c (filled (as_is k ds)) ≡ true
    → draft_grown g grow d c ≡ lifted (copy_of (filled (as_is k ds)))
draft_is_copy g grow c d k ds e h = rw (e, h) refl

-- the parts, by their places
abbrev pub written_part : Setting → Context → Tree → ℕ → Tree → Weighted
written_part g c t j u = lifted (written g u (below g (root t) j c))

abbrev pub kept_part : Setting → Growing → Context → Tree → ℕ → Tree → Weighted
kept_part g grow c t j u = grow (site_below (root t)) (below g (root t) j c) u

abbrev pub side_part :
    Setting → Growing → Context → Kind → Locals → Bindings → (ℕ → ℕ) → ℕ → Template → Weighted
side_part g grow c k L β f j q = draft_grown g grow (resolution q L β (f j)) (below g k j c)

written_from : (g : Setting) (c : Context) (k : Kind) (i : ℕ) (ts : Trees)
    → lifted_all (written_all g ts k i c)
    ≡ each_from (λ j u. lifted (written g u (below g k j c))) i (tree_list ts)
written_from g c k i no_trees = refl
written_from g c k i (tree_and t ts) =
    ap (weighted_and (lifted (written g t (below g k i c)))) (written_from g c k (suc i) ts)

pub written_each : (g : Setting) (c : Context) (t : Tree)
    → written_parts g c t ≡ each_from (written_part g c t) 0 (parts t)
written_each g c (node k ts) = written_from g c k 0 ts

kept_from : (g : Setting) (grow : Growing) (c : Context) (k : Kind) (i : ℕ) (ts : Trees)
    → parts_grown g grow ts k i c
    ≡ each_from (λ j u. grow (site_below k) (below g k j c) u) i (tree_list ts)
kept_from g grow c k i no_trees = refl
kept_from g grow c k i (tree_and t ts) =
    ap (weighted_and (grow (site_below k) (below g k i c) t)) (kept_from g grow c k (suc i) ts)

pub kept_each : (g : Setting) (grow : Growing) (c : Context) (t : Tree)
    → kept_parts g grow c t ≡ each_from (kept_part g grow c t) 0 (parts t)
kept_each g grow c (node k ts) = kept_from g grow c k 0 ts

side_from : (g : Setting) (grow : Growing) (c : Context) (k : Kind) (L : Locals) (β : Bindings)
    (f : ℕ → ℕ) (i : ℕ) (qs : List Template)
    → drafts_grown g grow (drafts (each_resolved qs L β f i)) k i c
    ≡ each_from (side_part g grow c k L β f) i qs
side_from g grow c k L β f i [] = refl
side_from g grow c k L β f i (q ∷ qs) =
    ap (weighted_and (draft_grown g grow (resolution q L β (f i)) (below g k i c)))
    (side_from g grow c k L β f (suc i) qs)

pub side_each : (g : Setting) (grow : Growing) (c : Context) (k : Kind) (L : Locals) (β : Bindings)
    (p : Template) (r : ℕ) (d : Draft) → d ≡ as_is k (drafts (parts_resolved p L β r))
    → draft_parts_grown g grow c d
    ≡ each_from (side_part g grow c k L β (λ i. part_number p L β i r)) 0 (template_parts p)
side_each g grow c k L β p r d e =
    rw e (side_from g grow c k L β (λ i. part_number p L β i r) 0 (template_parts p))

-- a part is less deep
below_most : (ts : Trees) (i : ℕ) (u : Tree) → Some u ≡ slice_get (tree_list ts) i
    → tree_depth u ≤ most_depth ts
below_most no_trees i u h = cc
below_most (tree_and t ts) zero u h = let e : u ≡ t = cc in rw e (omega arith)
below_most (tree_and t ts) (suc i) u h = let r = below_most ts i u h in omega arith

pub part_less_deep : (t u : Tree) (i : ℕ) → Some u ≡ slice_get (parts t) i
    → tree_depth u < tree_depth t
part_less_deep (node k ts) u i h = let r = below_most ts i u h in omega arith

-- the tree of a name
pub name_is_leaf : (t : Term) (x : List ℕ) → root (shape t) ≡ kind.Name x
    → shape t ≡ leaf (kind.Name x)
name_is_leaf (ast.Int n) x h = cc
name_is_leaf (ast.Bool b) x h = cc
name_is_leaf (ast.Text cs) x h = cc
name_is_leaf (ast.Name y) x h = ap leaf h
name_is_leaf (ast.List es) x h = cc
name_is_leaf (ast.Neg e) x h = cc
name_is_leaf (ast.Not e) x h = cc
name_is_leaf (ast.Arith op a b) x h = cc
name_is_leaf (ast.Cmp op a b) x h = cc
name_is_leaf (ast.And a b) x h = cc
name_is_leaf (ast.Or a b) x h = cc
name_is_leaf (ast.Cond t a b) x h = cc
name_is_leaf (ast.Index v i) x h = cc
name_is_leaf (ast.Slice v from to) x h = cc
name_is_leaf (ast.Call f es) x h = cc

-- what stands there is a name that is copied, and one that isn't
pub copied_name : (g : Setting) (c : Context) (t : Term) (k : Kind) (x : List ℕ)
    → k ≡ root (shape t) → k ≡ kind.Name x → ((ts : Trees) → copies c (node k ts) ≡ true)
    → (copies c (shape t) ≡ true) × (shape t ≡ leaf (kind.Name x))
copied_name g c t k x e n h =
    let is_leaf = name_is_leaf t x (sym e ∙ n) in
    (ap (copies c) is_leaf ∙ ap (λ j. copies c (leaf j)) (sym n) ∙ h no_trees, is_leaf)

pub not_copied : (c : Context) (t : Tree) (k : Kind) → k ≡ root t
    → ((ts : Trees) → copies c (node k ts) ≡ false) → copies c t ≡ false
not_copied c (node j ts) k e h = ap (λ i. copies c (node i ts)) (sym e) ∙ h ts

pub written_copy : (g : Setting) (c : Context) (t : Term) (k : Kind) (x : List ℕ)
    → k ≡ root (shape t) → k ≡ kind.Name x → ((ts : Trees) → copies c (node k ts) ≡ true)
    → lifted (copy_of (leaf (kind.Name x))) ≡ lifted (written g (shape t) c)
written_copy g c t k x e n h =
    let both = copied_name g c t k x e n h in
    ap (λ u. lifted (copy_of u)) (sym both.1) ∙ sym (written_is_copy g c (shape t) both.0)

pub kept_copy : (g : Setting) (grow : Growing) (c : Context) (t : Term) (k : Kind) (x : List ℕ)
    → k ≡ root (shape t) → k ≡ kind.Name x → ((ts : Trees) → copies c (node k ts) ≡ true)
    → lifted (copy_of (leaf (kind.Name x))) ≡ node_grown g grow c (shape t)
kept_copy g grow c t k x e n h =
    let both = copied_name g c t k x e n h in
    ap (λ u. lifted (copy_of u)) (sym both.1) ∙ sym (kept_is_copy g grow c (shape t) both.0)

no_parts : (ds : List Template) (L : Locals) (β : Bindings) (f : ℕ → ℕ) → length ds ≡ 0
    → drafts (each_resolved ds L β f 0) ≡ no_drafts
no_parts [] L β f h = refl
no_parts (d ∷ ds) L β f h = absurd (omega arith)

name_has_none : (k : Kind) (x : List ℕ) (n : ℕ) → k ≡ kind.Name x → HasParts k n → n ≡ 0
name_has_none k x n e h = subst (λ j. HasParts j n) e h

pub draft_copy : (g : Setting) (grow : Growing) (c : Context) (k : Kind) (x : List ℕ) (L : Locals)
    (β : Bindings) (p : Template) (r : ℕ) (d : Draft)
    → d ≡ as_is k (drafts (parts_resolved p L β r)) → HasParts k (length (template_parts p))
    → k ≡ kind.Name x → ((ts : Trees) → copies c (node k ts) ≡ true)
    → lifted (copy_of (leaf (kind.Name x))) ≡ draft_grown g grow d c
draft_copy g grow c k x L β p r d e has n h =
    let none =
    no_parts (template_parts p) L β (λ i. part_number p L β i r)
    (name_has_none k x (length (template_parts p)) n has) in
    let is_leaf : d ≡ as_is k no_drafts = e ∙ ap (as_is k) none in
    ap (λ j. lifted (copy_of (leaf j))) (sym n)
    ∙ sym (draft_is_copy g grow c d k no_drafts is_leaf (h no_trees))

pub draft_node : (g : Setting) (grow : Growing) (c : Context) (k : Kind) (ds : Drafts) (d : Draft)
    → d ≡ as_is k ds → ((ts : Trees) → copies c (node k ts) ≡ false)
    → draft_grown g grow d c ≡ plainly k (draft_parts_grown g grow c d)
draft_node g grow c k ds d e h = draft_is_node g grow c d k ds e (h (filled_all ds))

pub written_node : (g : Setting) (c : Context) (t : Tree) (k : Kind) → k ≡ root t
    → ((ts : Trees) → copies c (node k ts) ≡ false)
    → lifted (written g t c) ≡ plainly k (written_parts g c t)
written_node g c t k e h = written_is_node g c t k (not_copied c t k e h) e

pub kept_node : (g : Setting) (grow : Growing) (c : Context) (t : Tree) (k : Kind) → k ≡ root t
    → ((ts : Trees) → copies c (node k ts) ≡ false)
    → node_grown g grow c t ≡ plainly k (kept_parts g grow c t)
kept_node g grow c t k e h = kept_is_node g grow c t k (not_copied c t k e h) e

-- as many are built as there are
counted : {X : Type 0} (f : ℕ → X → Weighted) (ys : List X) (i n : ℕ) (xs : List Weighted)
    → weighteds xs ≡ numbered_all (each_from f i ys) n → length xs ≡ length ys
counted f [] i n [] h = refl
counted f [] i n (x ∷ xs) h = cc
counted f (y ∷ ys) i n [] h = cc
counted f (y ∷ ys) i n (x ∷ xs) h =
    let rest : weighteds xs ≡ numbered_all (each_from f (suc i) ys) (n + picks (f i y)) = cc in
    ap suc (counted f ys (suc i) (n + picks (f i y)) xs rest)

mapped_length : (ws : List WExpr) → length (map weighted_of ws) ≡ length ws
mapped_length [] = refl
mapped_length (w ∷ ws) = ap suc (mapped_length ws)

pub has_parts : {X : Type 0} (k : Kind) (f : ℕ → X → Weighted) (ys : List X) (ws : Weighteds)
    (n : ℕ) (made : List WExpr) → ws ≡ each_from f 0 ys
    → weighteds (map weighted_of made) ≡ numbered_all ws n → HasParts k (length ys)
    → HasParts k (length made)
has_parts k f ys ws n made e h has =
    let same =
    sym (mapped_length made)
    ∙ counted f ys 0 n (map weighted_of made) (h ∙ ap (λ xs. numbered_all xs n) e) in
    subst (HasParts k) (sym same) has
