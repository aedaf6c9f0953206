-- The trees of filled drafts.
use Rattle.std.proofs.Common.{◌≡◌, ℕ, zero, suc, ◌+◌, List, [], ◌∷◌, ◌++◌, map, drop}
use Rattle.std.proofs.Common.{slice_get, Some, None, refl, sym, ap, ◌∙◌, arith, append_assoc}
use Rattle.std.proofs.lemmas.List.{append-nil, map-append}
use Rattle.mpy_tree.specs.declared.tree.Expr.{Expr}
use Rattle.mpy_tree.specs.View.{term_of}
use Rattle.mpy_tree.specs.Shapes.{shape}
use Rattle.mpy_tree.specs.Trees.{Tree, Trees, node, no_trees, tree_and}
use Rattle.choice_tree.specs.Heads.{trees}
use Rattle.choice_tree.specs.Templates.{Template}
use Rattle.choice_tree.specs.Matching.{Bindings}
use Rattle.choice_tree.specs.Drafts.{Draft, draft_of, drafts_of, filled, filled_all}
use Rattle.choice_tree.proofs.Walking.{next_of, no_next}
use Rattle.eml_match.specs.Parts.{template_parts}
use Rattle.eml_match.specs.Resolutions.{Locals, resolution}
use Rattle.eml_instances.specs.Resolving.{drafts, each_resolved, parts_resolved, part_number}

mutual
  pub filled_back : (t : Tree) → filled (draft_of t) ≡ t
  filled_back (node k ts) = ap (node k) (all_filled_back ts)

  all_filled_back : (ts : Trees) → filled_all (drafts_of ts) ≡ ts
  all_filled_back no_trees = refl
  all_filled_back (tree_and t ts) = λ i. tree_and (filled_back t i) (all_filled_back ts i)

each_filled : (ds : List Draft) → filled_all (drafts ds) ≡ trees (map filled ds)
each_filled [] = refl
each_filled (d ∷ ds) = ap (tree_and (filled d)) (each_filled ds)

each_at : (qs : List Template) (L : Locals) (β : Bindings) (f : ℕ → ℕ) (k i n : ℕ) (q : Template)
    → n ≡ k + i → Some q ≡ slice_get qs i
    → Some (resolution q L β (f n)) ≡ slice_get (each_resolved qs L β f k) i
each_at [] L β f k i n q e h = cc
each_at (p ∷ qs) L β f k zero n q e h =
    let s : q ≡ p = cc in
    let m : n ≡ k = omega arith in
    rw (s, m) refl
each_at (p ∷ qs) L β f k (suc i) n q e h = each_at qs L β f (suc k) i n q (omega arith) h

none_at : (qs : List Template) (L : Locals) (β : Bindings) (f : ℕ → ℕ) (k i : ℕ)
    → None ≡ slice_get qs i → None ≡ slice_get (each_resolved qs L β f k) i
none_at [] L β f k zero h = refl
none_at [] L β f k (suc i) h = refl
none_at (p ∷ qs) L β f k zero h = cc
none_at (p ∷ qs) L β f k (suc i) h = none_at qs L β f (suc k) i h

-- the trees that were made, and those of the parts that are left
abbrev pub made_and_left : Template → Locals → Bindings → ℕ → List Expr → ℕ → Trees
made_and_left p L β r made i =
    trees (map (λ e. shape (term_of e)) made ++ map filled (drop i (parts_resolved p L β r)))

pub none_made : (p : Template) (L : Locals) (β : Bindings) (r : ℕ)
    → filled_all (drafts (parts_resolved p L β r)) ≡ made_and_left p L β r [] 0
none_made p L β r = each_filled (parts_resolved p L β r)

pub one_made : (p q : Template) (L : Locals) (β : Bindings) (r i j n : ℕ) (e : Expr)
    (now new : List Expr) → j ≡ suc i → Some q ≡ slice_get (template_parts p) i
    → n ≡ part_number p L β i r → shape (term_of e) ≡ filled (resolution q L β n)
    → new ≡ now ++ e ∷ []
    → made_and_left p L β r now i ≡ made_and_left p L β r new j
one_made p q L β r i j n e now new same at number made put =
    let ds = parts_resolved p L β r in
    let f : Expr → Tree = λ (x : Expr). shape (term_of x) in
    let d = resolution q L β n in
    let here : Some d ≡ slice_get ds i =
    ap (λ m. Some (resolution q L β m)) number
    ∙ each_at (template_parts p) L β (λ m. part_number p L β m r) 0 i i q (omega arith) at in
    let rest = map filled (drop j ds) in
    let left : map filled (drop i ds) ≡ f e ∷ rest =
    rw same (ap (map filled) (next_of ds i d here)
    ∙ ap (λ t. t ∷ map filled (drop (suc i) ds)) (sym made)) in
    ap (λ ts. trees (map f now ++ ts)) left
    ∙ ap trees (sym (append_assoc (map f now) (f e ∷ []) rest))
    ∙ ap (λ ts. trees (ts ++ rest)) (sym (map-append f now (e ∷ [])) ∙ ap (map f) (sym put))

pub all_made : (p : Template) (L : Locals) (β : Bindings) (r i : ℕ) (now : List Expr)
    → None ≡ slice_get (template_parts p) i
    → made_and_left p L β r now i ≡ trees (map (λ e. shape (term_of e)) now)
all_made p L β r i now h =
    let f : Expr → Tree = λ (x : Expr). shape (term_of x) in
    let none = none_at (template_parts p) L β (λ m. part_number p L β m r) 0 i h in
    ap (λ ds. trees (map f now ++ map filled ds)) (no_next (parts_resolved p L β r) i none)
    ∙ ap trees (append-nil (map f now))
