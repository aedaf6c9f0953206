-- The weighted trees of statements: no rule is tried there.
use Rattle.std.proofs.Common.{◌≡◌, ℕ, suc, ◌+◌, ◌<◌, ◌≤◌, Bool, true, false, cond}
use Rattle.std.proofs.Common.{nat_lt}
use Rattle.std.proofs.Common.{List, [], ◌∷◌, Option, Some, None, Result, Ok, Err, refl, ap}
use Rattle.std.proofs.Common.{subst, ◌∙◌, arith}
use Rattle.std.proofs.lemmas.Bool.Decides.{nat_tests}
use Rattle.std.specs.Prelude.{filter}
use Rattle.mpy_tree.specs.declared.typing.Ty.{Ty}
use Rattle.mpy_tree.specs.Trees as kind
use Rattle.mpy_tree.specs.Trees.{Kind, Tree, Trees, node, no_trees, tree_and}
use Rattle.choice_tree.specs.Contexts.{Setting, Site, elsewhere, at_return, at_assign, at_if}
use Rattle.choice_tree.specs.Contexts.{at_while, at_for, Context, site_below, below, copies, inside}
use Rattle.choice_tree.specs.Drafts.{Proposal, proposals}
use Rattle.choice_tree.specs.Matching.{here, is_expression}
use Rattle.choice_tree.specs.Templates.{KeepPrimes}
use Rattle.choice_tree.specs.Typing.{Scope, node_type, same_type, types_of}
use Rattle.choice_tree.specs.WeightedTrees.{Weighted, plainly, weighted_and}
use Rattle.choice_tree.specs.WeightedTrees.{size}
use Rattle.choice_tree.specs.Growing.{grown, parts_grown, node_grown, picked, members}
use Rattle.choice_tree.specs.Growing.{alternatives, is_alternative, steps, steps_in}
use Rattle.choice_tree.proofs.Complete.{extra_most}
use Rattle.choice_tree.proofs.Enough.{enough}
use Rattle.eml_rewrite.specs.declared.counter.Counter.{Counter}
use Rattle.eml_rewrite.specs.declared.error.RewriteError.{RewriteError}
use Rattle.eml_rewrite.specs.declared.error.RewriteError.TheVariants as stop
use Rattle.eml_rewrite.specs.Building.{Built}
use Rattle.eml_rewrite.specs.Statements.{fully_grown, node_over_parts}
use Rattle.eml_rewrite.proofs.Sizes.{IsTerm, grown_size}

untyped : (σ : Scope) (k : Kind) (os : List (Option Ty)) → is_expression k ≡ false
    → node_type σ k os ≡ None
untyped σ (kind.Int n) os h = cc
untyped σ (kind.Bool b) os h = cc
untyped σ (kind.Text cs) os h = cc
untyped σ (kind.Name x) os h = cc
untyped σ kind.List os h = cc
untyped σ kind.Neg os h = cc
untyped σ kind.Not os h = cc
untyped σ (kind.Arith op) os h = cc
untyped σ (kind.Cmp op) os h = cc
untyped σ kind.And os h = cc
untyped σ kind.Or os h = cc
untyped σ kind.Cond os h = cc
untyped σ kind.Index os h = cc
untyped σ (kind.Slice from to) os h = cc
untyped σ (kind.Call f) os h = cc
untyped σ _ os h = refl

not_copied : (c : Context) (k : Kind) (ts : Trees) → is_expression k ≡ false
    → copies c (node k ts) ≡ false
not_copied c (kind.Name x) ts h = cc
not_copied c _ ts h = refl

never_same : (o : Option Ty) → same_type o None ≡ false
never_same None = refl
never_same (Some t) = refl

none_pass : (test : Proposal → Bool) (ps : List Proposal) → ((p : Proposal) → test p ≡ false)
    → filter test ps ≡ []
none_pass test [] h = refl
none_pass test (p ∷ ps) h =
    ap (λ b. cond b (p ∷ filter test ps) (filter test ps)) (h p) ∙ none_pass test ps h

no_alternative : (g : Setting) (site : Site) (c : Context) (k : Kind) (ts : Trees)
    → is_expression k ≡ false → alternatives g (here site) c (node k ts) ≡ []
no_alternative g site c k ts h =
    none_pass (is_alternative c.scope (node k ts)) (proposals (here site) c.scope g.rules (node k
    ts))
    (λ p. rw (untyped c.scope k (types_of c.scope ts) h) (never_same _))

-- a statement, with the trees of its parts
pub statement_grown : (g : Setting) (f : ℕ) (c : Context) (k : Kind) (ts : Trees)
    → is_expression k ≡ false
    → grown g (suc f) elsewhere c (node k ts) ≡ plainly k (parts_grown g (grown g f) ts k 0 c)
statement_grown g f c k ts h =
    ap (λ ps. picked (node_grown g (grown g f) c (node k ts)) (members g (grown g f) (inside c) ps))
    (no_alternative g elsewhere c k ts h)
    ∙ rw (not_copied c k ts h) refl

-- of parts for which there are enough steps
pub parts_enough : (g : Setting) → KeepPrimes g.rules → (f : ℕ) (ts : Trees) (k : Kind) (i : ℕ)
    (c : Context) → steps_in ts + 1 ≤ f
    → parts_grown g (grown g f) ts k i c ≡ parts_grown g (fully_grown g) ts k i c
parts_enough g keeps f no_trees k i c h = refl
parts_enough g keeps f (tree_and t ts) k i c h =
    let e = extra_most (site_below k) in
    let first =
    enough g keeps f (steps t + 1) (site_below k) (below g k i c) t (omega arith) (omega arith) in
    let rest = parts_enough g keeps f ts k (suc i) c (omega arith) in
    λ j. weighted_and (first j) (rest j)

placed : (g : Setting) → KeepPrimes g.rules → (site : Site) (c : Context) (k : Kind) (ts : Trees)
    (f : ℕ) → is_expression k ≡ false → steps_in ts + 1 ≤ f
    → picked (grown g (suc f) elsewhere c (node k ts))
    (members g (grown g (suc f)) (inside c) (alternatives g (here site) c (node k ts)))
    ≡ plainly k (parts_grown g (fully_grown g) ts k 0 c)
placed g keeps site c k ts f h e =
    ap (λ ps. picked (grown g (suc f) elsewhere c (node k ts))
    (members g (grown g (suc f)) (inside c) ps)) (no_alternative g site c k ts h)
    ∙ statement_grown g f c k ts h
    ∙ ap (plainly k) (parts_enough g keeps f ts k 0 c e)

more_steps : (g : Setting) → KeepPrimes g.rules → (site : Site) (c : Context) (k : Kind) (ts :
    Trees)
    (f : ℕ) → is_expression k ≡ false → steps_in ts + 1 ≤ f
    → grown g (suc (suc f)) site c (node k ts) ≡ plainly k (parts_grown g (fully_grown g) ts k 0 c)
more_steps g keeps elsewhere c k ts f h e =
    statement_grown g (suc f) c k ts h
    ∙ ap (plainly k) (parts_enough g keeps (suc f) ts k 0 c (omega arith))
more_steps g keeps at_return c k ts f h e = placed g keeps at_return c k ts f h e
more_steps g keeps (at_assign x) c k ts f h e = placed g keeps (at_assign x) c k ts f h e
more_steps g keeps at_if c k ts f h e = placed g keeps at_if c k ts f h e
more_steps g keeps at_while c k ts f h e = placed g keeps at_while c k ts f h e
more_steps g keeps (at_for x) c k ts f h e = placed g keeps (at_for x) c k ts f h e

pub statement_is : (g : Setting) → KeepPrimes g.rules → (site : Site) (c : Context) (k : Kind)
    (ts : Trees) → is_expression k ≡ false
    → fully_grown g site c (node k ts) ≡ node_over_parts g c (node k ts)
statement_is g keeps site c k ts h =
    let more : suc (suc (steps_in ts)) + 1 ≡ suc (suc (suc (steps_in ts))) = omega arith in
    ap (λ n. grown g n site c (node k ts)) more
    ∙ more_steps g keeps site c k ts (suc (steps_in ts)) h (omega arith)

either_way : (b : Bool) (m n : ℕ) → nat_lt m n ≡ b → (P : Type 0) → (m < n → P) → (n ≤ m → P) → P
either_way true m n e P f h = f (grind (arith, nat_tests))
either_way false m n e P f h = h (grind (arith, nat_tests))

-- So many steps are enough for what isn't too large, and with fewer it is too large too.
pub as_many : {A : Type 0} (view : A → Weighted) (r : Result A RewriteError) (g : Setting)
    → KeepPrimes g.rules → (most : ℕ) (site : Site) (c : Context) (t : Tree) (old new : Counter)
    → IsTerm t → old.left ≤ 1000000 → 2000001 ≤ most
    → Built view r (grown g most site c t) old new → Built view r (fully_grown g site c t) old new
as_many view (Ok a) g keeps most site c t old new is few large b =
    let taken = b.1.left in
    let s = grown_size g most site c t is in
    let e = extra_most site in
    subst (λ w. Built view (Ok a) w old new)
    (enough g keeps most (steps t + 1) site c t (omega arith) (omega arith)) b
as_many view (Err stop.Large) g keeps most site c t old new is few large b =
    let e = extra_most site in
    let s = grown_size g (steps t + 1) site c t is in
    either_way (nat_lt most (steps t + 1)) most (steps t + 1) refl
    (Built view (Err stop.Large) (fully_grown g site c t) old new)
    (λ more. omega arith)
    (λ less. subst (λ w. old.left < size w)
    (enough g keeps most (steps t + 1) site c t (omega arith) (omega arith)) b)
as_many view (Err stop.NoMemory) g keeps most site c t old new is few large b = tt
