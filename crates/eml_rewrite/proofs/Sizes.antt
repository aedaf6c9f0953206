-- The weighted tree of an expression is no smaller than the expression, nor than it has members.
use Rattle.std.proofs.Common.{◌≡◌, ℕ, zero, suc, ◌*◌, ◌<◌, ◌≤◌, Bool, true, false, cond}
use Rattle.std.proofs.Common.{if◌then◌else◌, List, [], ◌∷◌, length, filter, Option}
use Rattle.std.proofs.Common.{refl, arith}
use Rattle.mpy_tree.specs.declared.typing.Ty.{Ty}
use Rattle.mpy_tree.specs.Syntax as ast
use Rattle.mpy_tree.specs.Syntax.{Term, Terms, MaybeTerm, no_terms, term_and, no_term, a_term}
use Rattle.mpy_tree.specs.Shapes.{shape, shapes}
use Rattle.mpy_tree.specs.Trees as kind
use Rattle.mpy_tree.specs.Trees.{Kind, Tree, Trees, node, no_trees, tree_and}
use Rattle.choice_tree.specs.Contexts.{Setting, Site, elsewhere, at_return, at_assign, at_if}
use Rattle.choice_tree.specs.Contexts.{at_while, at_for, Context, site_below, below, copies}
use Rattle.choice_tree.specs.Contexts.{inside}
use Rattle.choice_tree.specs.Drafts.{Draft, as_is, again, filled, filled_all}
use Rattle.choice_tree.specs.Drafts.{Proposal, proposals}
use Rattle.choice_tree.specs.Matching.{here, is_expression}
use Rattle.choice_tree.specs.Rewriting.{written, written_all}
use Rattle.choice_tree.specs.Typing.{Scope, type_of, types_of, node_type, same_type, copy_of}
use Rattle.choice_tree.specs.WeightedTrees.{Weighted, Weighteds, Others, plainly}
use Rattle.choice_tree.specs.WeightedTrees.{no_others, other_and, lifted, lifted_all}
use Rattle.choice_tree.specs.WeightedTrees.{size, sizes, other_sizes}
use Rattle.choice_tree.specs.Growing.{Growing, grown, node_grown, parts_grown, base_grown, picked}
use Rattle.choice_tree.specs.Growing.{members, alternatives, draft_grown, drafts_grown}
use Rattle.choice_tree.specs.Growing.{is_alternative, steps}
use Rattle.choice_tree.specs.Growing.{steps_in}

-- each node is one of an expression
abbrev mutual
  pub IsTerm : Tree → Type 0
  IsTerm (node k ts) = (is_expression k ≡ true) × AreTerms ts

  pub AreTerms : Trees → Type 0
  AreTerms no_trees = Unit {0}
  AreTerms (tree_and t ts) = IsTerm t × AreTerms ts

mutual
  pub shape_is_term : (t : Term) → IsTerm (shape t)
  shape_is_term (ast.Int n) = (refl, tt)
  shape_is_term (ast.Bool b) = (refl, tt)
  shape_is_term (ast.Text cs) = (refl, tt)
  shape_is_term (ast.Name x) = (refl, tt)
  shape_is_term (ast.List es) = (refl, shapes_are_terms es)
  shape_is_term (ast.Neg e) = (refl, (shape_is_term e, tt))
  shape_is_term (ast.Not e) = (refl, (shape_is_term e, tt))
  shape_is_term (ast.Arith op a b) = (refl, (shape_is_term a, (shape_is_term b, tt)))
  shape_is_term (ast.Cmp op a b) = (refl, (shape_is_term a, (shape_is_term b, tt)))
  shape_is_term (ast.And a b) = (refl, (shape_is_term a, (shape_is_term b, tt)))
  shape_is_term (ast.Or a b) = (refl, (shape_is_term a, (shape_is_term b, tt)))
  shape_is_term (ast.Cond t a b) =
      (refl, (shape_is_term a, (shape_is_term t, (shape_is_term b, tt))))
  shape_is_term (ast.Index v i) = (refl, (shape_is_term v, (shape_is_term i, tt)))
  shape_is_term (ast.Slice v no_term no_term) = (refl, (shape_is_term v, tt))
  shape_is_term (ast.Slice v (a_term f) no_term) =
      (refl, (shape_is_term v, (shape_is_term f, tt)))
  shape_is_term (ast.Slice v no_term (a_term t)) =
      (refl, (shape_is_term v, (shape_is_term t, tt)))
  shape_is_term (ast.Slice v (a_term f) (a_term t)) =
      (refl, (shape_is_term v, (shape_is_term f, (shape_is_term t, tt))))
  shape_is_term (ast.Call f es) = (refl, shapes_are_terms es)

  shapes_are_terms : (es : Terms) → AreTerms (shapes es)
  shapes_are_terms no_terms = tt
  shapes_are_terms (term_and e es) = (shape_is_term e, shapes_are_terms es)

-- two steps for a level at most
mutual
  lifted_size : (t : Tree) → IsTerm t → steps t ≤ 2 * size (lifted t)
  lifted_size (node k ts) h =
      let r = lifteds_size ts h.1 in rw h.0 (omega arith)

  lifteds_size : (ts : Trees) → AreTerms ts → steps_in ts ≤ 2 * sizes (lifted_all ts)
  lifteds_size no_trees h = omega arith
  lifteds_size (tree_and t ts) h =
      let a = lifted_size t h.0 in
      let r = lifteds_size ts h.1 in
      omega arith

copy_size : (t : Tree) → IsTerm t → steps t ≤ 2 * size (lifted (copy_of t))
copy_size t h = let r = lifted_size t h in omega arith

either_size : (b : Bool) (k : Kind) (ts us : Trees) → IsTerm (node k ts)
    → steps_in ts ≤ 2 * sizes (lifted_all us)
    → steps (node k ts) ≤ 2 * size (lifted (if b then copy_of (node k ts) else node k us))
either_size true k ts us h r = copy_size (node k ts) h
either_size false k ts us h r = rw h.0 (omega arith)

mutual
  written_size : (g : Setting) (t : Tree) (c : Context) → IsTerm t
      → steps t ≤ 2 * size (lifted (written g t c))
  written_size g (node k ts) c h =
      let r = writtens_size g ts k 0 c h.1 in
      either_size (copies c (node k ts)) k ts (written_all g ts k 0 c) h r

  writtens_size : (g : Setting) (ts : Trees) (k : Kind) (i : ℕ) (c : Context) → AreTerms ts
      → steps_in ts ≤ 2 * sizes (lifted_all (written_all g ts k i c))
  writtens_size g no_trees k i c h = omega arith
  writtens_size g (tree_and t ts) k i c h =
      let a = written_size g t (below g k i c) h.0 in
      let r = writtens_size g ts k (suc i) c h.1 in
      omega arith

-- what grows is no smaller than two steps for a level
abbrev LargeBy : Growing → Type 0
LargeBy grow = (site : Site) (c : Context) (t : Tree) → IsTerm t → steps t ≤ 2 * size (grow site c
    t)

parts_size : (g : Setting) (grow : Growing) → LargeBy grow → (ts : Trees) (k : Kind) (i : ℕ)
    (c : Context) → AreTerms ts → steps_in ts ≤ 2 * sizes (parts_grown g grow ts k i c)
parts_size g grow large no_trees k i c h = omega arith
parts_size g grow large (tree_and t ts) k i c h =
    let a = large (site_below k) (below g k i c) t h.0 in
    let r = parts_size g grow large ts k (suc i) c h.1 in
    omega arith

either_node : (b : Bool) (k : Kind) (ts : Trees) (ws : Weighteds) → IsTerm (node k ts)
    → steps_in ts ≤ 2 * sizes ws
    → steps (node k ts) ≤ 2 * size (if b then lifted (copy_of (node k ts)) else plainly k ws)
either_node true k ts ws h r = copy_size (node k ts) h
either_node false k ts ws h r = rw h.0 (omega arith)

node_size : (g : Setting) (grow : Growing) → LargeBy grow → (c : Context) (t : Tree) → IsTerm t
    → steps t ≤ 2 * size (node_grown g grow c t)
node_size g grow large c (node k ts) h =
    either_node (copies c (node k ts)) k ts (parts_grown g grow ts k 0 c) h
    (parts_size g grow large ts k 0 c h.1)

base_size : (g : Setting) (grow : Growing) → LargeBy grow → (site : Site) (c : Context) (t : Tree)
    → IsTerm t → steps t ≤ 2 * size (base_grown g grow site c t)
base_size g grow large elsewhere c t h = node_size g grow large c t h
base_size g grow large at_return c t h = large elsewhere c t h
base_size g grow large (at_assign x) c t h = large elsewhere c t h
base_size g grow large at_if c t h = large elsewhere c t h
base_size g grow large at_while c t h = large elsewhere c t h
base_size g grow large (at_for x) c t h = large elsewhere c t h

picked_size : (base : Weighted) (os : Others) → size base ≤ size (picked base os)
picked_size base no_others = omega arith
picked_size base (other_and rule cost w os) = omega arith

pub grown_size : (g : Setting) (f : ℕ) → LargeBy (grown g f)
grown_size g zero site c t h = written_size g t c h
grown_size g (suc f) site c t h =
    let base = base_grown g (grown g f) site c t in
    let b = base_size g (grown g f) (grown_size g f) site c t h in
    let p = picked_size base (members g (grown g f) (inside c) (alternatives g (here site) c t)) in
    omega arith

-- a node that has a type is one of an expression
pub typed_expression : (σ : Scope) (k : Kind) (os : List (Option Ty)) (o : Option Ty)
    → same_type (node_type σ k os) o ≡ true → is_expression k ≡ true
typed_expression σ (kind.Int n) os o h = refl
typed_expression σ (kind.Bool b) os o h = refl
typed_expression σ (kind.Text cs) os o h = refl
typed_expression σ (kind.Name x) os o h = refl
typed_expression σ kind.List os o h = refl
typed_expression σ kind.Neg os o h = refl
typed_expression σ kind.Not os o h = refl
typed_expression σ (kind.Arith op) os o h = refl
typed_expression σ (kind.Cmp op) os o h = refl
typed_expression σ kind.And os o h = refl
typed_expression σ kind.Or os o h = refl
typed_expression σ kind.Cond os o h = refl
typed_expression σ kind.Index os o h = refl
typed_expression σ (kind.Slice from to) os o h = refl
typed_expression σ (kind.Call f) os o h = refl
typed_expression σ _ os o h = cc

-- the root of an expression is a node
rooted_lifted : (k : Kind) (ts : Trees) → is_expression k ≡ true → 1 ≤ size (lifted (node k ts))
rooted_lifted k ts h = rw h (omega arith)

pub either_rooted : (b : Bool) (k : Kind) (ts : Trees) (w : Weighted) → 1 ≤ size w
    → 1 ≤ size (if b then lifted (copy_of (node k ts)) else w)
either_rooted true k ts w h = omega arith
either_rooted false k ts w h = h

rooted_written : (b : Bool) (k : Kind) (ts us : Trees) → is_expression k ≡ true
    → 1 ≤ size (lifted (if b then copy_of (node k ts) else node k us))
rooted_written true k ts us h = omega arith
rooted_written false k ts us h = rooted_lifted k us h

rooted_plainly : (k : Kind) (ws : Weighteds) → is_expression k ≡ true → 1 ≤ size (plainly k ws)
rooted_plainly k ws h = rw h (omega arith)

rooted_base : (g : Setting) (f : ℕ) (site : Site) (c : Context) (k : Kind) (ts : Trees)
    → is_expression k ≡ true → ((d : Context) → 1 ≤ size (grown g f elsewhere d (node k ts)))
    → 1 ≤ size (base_grown g (grown g f) site c (node k ts))
rooted_base g f elsewhere c k ts h r =
    either_rooted (copies c (node k ts)) k ts (plainly k (parts_grown g (grown g f) ts k 0 c))
    (rooted_plainly k (parts_grown g (grown g f) ts k 0 c) h)
rooted_base g f at_return c k ts h r = r c
rooted_base g f (at_assign x) c k ts h r = r c
rooted_base g f at_if c k ts h r = r c
rooted_base g f at_while c k ts h r = r c
rooted_base g f (at_for x) c k ts h r = r c

pub rooted : (g : Setting) (f : ℕ) (site : Site) (c : Context) (k : Kind) (ts : Trees)
    → is_expression k ≡ true → 1 ≤ size (grown g f site c (node k ts))
rooted g zero site c k ts h =
    rooted_written (copies c (node k ts)) k ts (written_all g ts k 0 c) h
rooted g (suc f) site c k ts h =
    let base = base_grown g (grown g f) site c (node k ts) in
    let b = rooted_base g f site c k ts h (λ d. rooted g f elsewhere d k ts h) in
    let p =
    picked_size base
    (members g (grown g f) (inside c) (alternatives g (here site) c (node k ts))) in
    omega arith

rooted_draft : (g : Setting) (f : ℕ) (σ : Scope) (d : Draft) (c : Context) (o : Option Ty)
    → same_type (type_of σ (filled d)) o ≡ true → 1 ≤ size (draft_grown g (grown g f) d c)
rooted_draft g f σ (as_is k ds) c o h =
    either_rooted (copies c (filled (as_is k ds))) k (filled_all ds)
    (plainly k (drafts_grown g (grown g f) ds k 0 c))
    (rooted_plainly k (drafts_grown g (grown g f) ds k 0 c)
    (typed_expression σ k (types_of σ (filled_all ds)) o h))
rooted_draft g f σ (again (node k ts)) c o h =
    rooted g f elsewhere c k ts (typed_expression σ k (types_of σ ts) o h)

-- a node at least for each member
members_size : (g : Setting) (f : ℕ) (σ : Scope) (c : Context) (t : Tree) (ps : List Proposal)
    → length (filter (is_alternative σ t) ps)
    ≤ other_sizes (members g (grown g f) c (filter (is_alternative σ t) ps))
members_size g f σ c t [] = omega arith
members_size g f σ c t (p ∷ ps) =
    one_more (is_alternative σ t p) refl (members_size g f σ c t ps)
  where
    one_more : (b : Bool) → is_alternative σ t p ≡ b
        → length (filter (is_alternative σ t) ps)
        ≤ other_sizes (members g (grown g f) c (filter (is_alternative σ t) ps))
        → length (cond b (p ∷ filter (is_alternative σ t) ps) (filter (is_alternative σ t) ps))
        ≤ other_sizes (members g (grown g f) c (cond b (p ∷ filter (is_alternative σ t) ps)
        (filter (is_alternative σ t) ps)))
    one_more true e h =
        let r = rooted_draft g f σ p.draft c (type_of σ t) e in omega arith
    one_more false e h = h

picked_members : (base : Weighted) (os : Others) → other_sizes os ≤ size (picked base os)
picked_members base no_others = omega arith
picked_members base (other_and rule cost w os) = omega arith

pub more_members : (g : Setting) (f : ℕ) (site : Site) (c : Context) (t : Tree) (left : ℕ)
    → left < length (alternatives g (here site) c t) → left < size (grown g (suc f) site c t)
more_members g f site c t left h =
    let ms = members g (grown g f) (inside c) (alternatives g (here site) c t) in
    let few =
    members_size g f c.scope (inside c) t (proposals (here site) c.scope g.rules t) in
    let some = picked_members (base_grown g (grown g f) site c t) ms in
    omega arith
