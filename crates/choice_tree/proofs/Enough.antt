-- With enough steps, more change nothing.
use Rattle.std.proofs.Common.{◌≡◌, ℕ, zero, suc, ◌+◌, ◌≤◌, Bool, true, false, cond}
use Rattle.std.proofs.Common.{if◌then◌else◌, List, [], ◌∷◌, Option, refl, arith}
use Rattle.std.specs.Prelude.{filter}
use Rattle.mpy_tree.specs.Trees.{Kind, Tree, Trees, node, no_trees, tree_and}
use Rattle.choice_tree.specs.declared.rules.Place.{Place}
use Rattle.choice_tree.specs.Templates.{KeepPrimes}
use Rattle.choice_tree.specs.Typing.{copy_of}
use Rattle.choice_tree.specs.Contexts.{Setting, Site, elsewhere}
use Rattle.choice_tree.specs.Contexts.{Context, site_below, below, inside, copies}
use Rattle.choice_tree.specs.Matching.{Bindings, without_place, with_place}
use Rattle.choice_tree.specs.Drafts.{Draft, Drafts, as_is, again, no_drafts, draft_and, filled}
use Rattle.choice_tree.specs.Drafts.{Proposal, proposals}
use Rattle.choice_tree.specs.WeightedTrees.{Weighted, plainly, weighted_and}
use Rattle.choice_tree.specs.WeightedTrees.{other_and, lifted}
use Rattle.choice_tree.specs.Growing.{Growing, is_alternative, alternatives, picked, parts_grown}
use Rattle.choice_tree.specs.Growing.{node_grown, draft_grown, drafts_grown, members}
use Rattle.choice_tree.specs.Growing.{grown, steps, steps_in}
use Rattle.choice_tree.proofs.Complete.{extra, extra_most}
use Rattle.choice_tree.proofs.Lists.{Each}
use Rattle.choice_tree.proofs.Within.{Within, WithinAll, alternatives_within, placed_within}

-- both give the same where f steps are enough and h are
abbrev Same : ℕ → ℕ → Growing → Growing → Type 0
Same f h one other = (site : Site) (c : Context) (t : Tree) → steps t + extra site ≤ f
    → steps t + extra site ≤ h → one site c t ≡ other site c t

parts_same : (g : Setting) (f h : ℕ) (one other : Growing) → Same f h one other
    → (ts : Trees) (k : Kind) (i : ℕ) (c : Context) → steps_in ts + 1 ≤ f → steps_in ts + 1 ≤ h
    → parts_grown g one ts k i c ≡ parts_grown g other ts k i c
parts_same g f h one other same no_trees k i c a b = refl
parts_same g f h one other same (tree_and t ts) k i c a b =
    let e = extra_most (site_below k) in
    let first = same (site_below k) (below g k i c) t (omega arith) (omega arith) in
    let rest = parts_same g f h one other same ts k (suc i) c (omega arith) (omega arith) in
    λ j. weighted_and (first j) (rest j)

node_same : (g : Setting) (f h : ℕ) (one other : Growing) → Same f h one other
    → (c : Context) (t : Tree) → steps t ≤ suc f → steps t ≤ suc h
    → node_grown g one c t ≡ node_grown g other c t
node_same g f h one other same c (node k ts) a b =
    let parts = parts_same g f h one other same ts k 0 c (omega arith) (omega arith) in
    λ j. if copies c (node k ts) then lifted (copy_of (node k ts)) else plainly k (parts j)

mutual
  draft_same : (g : Setting) (f h : ℕ) (one other : Growing) → Same f h one other
      → (d : Draft) (c : Context) → Within f d → Within h d
      → draft_grown g one d c ≡ draft_grown g other d c
  draft_same g f h one other same (as_is k ds) c a b =
      λ j. if copies c (filled (as_is k ds)) then lifted (copy_of (filled (as_is k ds))) else
      plainly k (drafts_same g f h one other same ds k 0 c a b j)
  draft_same g f h one other same (again t) c a b = same elsewhere c t (omega arith) (omega arith)

  drafts_same : (g : Setting) (f h : ℕ) (one other : Growing) → Same f h one other
      → (ds : Drafts) (k : Kind) (i : ℕ) (c : Context) → WithinAll f ds → WithinAll h ds
      → drafts_grown g one ds k i c ≡ drafts_grown g other ds k i c
  drafts_same g f h one other same no_drafts k i c a b = refl
  drafts_same g f h one other same (draft_and d ds) k i c a b =
      λ j. weighted_and (draft_same g f h one other same d (below g k i c) a.0 b.0 j)
      (drafts_same g f h one other same ds k (suc i) c a.1 b.1 j)

members_same : (g : Setting) (f h : ℕ) (one other : Growing) → Same f h one other
    → (c : Context) (ps : List Proposal) → Each (λ p. Within f p.draft) ps
    → Each (λ p. Within h p.draft) ps → members g one c ps ≡ members g other c ps
members_same g f h one other same c [] a b = refl
members_same g f h one other same c (p ∷ ps) a b =
    let first = draft_same g f h one other same p.draft c a.0 b.0 in
    let rest = members_same g f h one other same c ps a.1 b.1 in
    λ j. other_and p.rule p.cost (first j) (rest j)

each_if : {A : Type 0} (P : A → Type 0) (x : A) (ys : List A) (b : Bool) → P x → Each P ys
    → Each P (cond b (x ∷ ys) ys)
each_if P x ys true h k = (h, k)
each_if P x ys false h k = k

each_filter : {A : Type 0} (P : A → Type 0) (test : A → Bool) (xs : List A) → Each P xs
    → Each P (filter test xs)
each_filter P test [] h = tt
each_filter P test (x ∷ xs) h =
    each_if P x (filter test xs) (test x) h.0 (each_filter P test xs h.1)

both_same : (g : Setting) (f h : ℕ) (one other : Growing) → Same f h one other
    → (base base' : Weighted) → base ≡ base'
    → (around : Place → Option Bindings) (c : Context) (t : Tree)
    → Each (λ p. Within f p.draft) (proposals around c.scope g.rules t)
    → Each (λ p. Within h p.draft) (proposals around c.scope g.rules t)
    → picked base (members g one (inside c) (alternatives g around c t)) ≡ picked base'
    (members g other (inside c) (alternatives g around c t))
both_same g f h one other same base base' e around c t a b =
    let test = is_alternative c.scope t in
    let ps = proposals around c.scope g.rules t in
    let others =
    members_same g f h one other same (inside c) (alternatives g around c t)
    (each_filter (λ p. Within f p.draft) test ps a)
    (each_filter (λ p. Within h p.draft) test ps b) in
    λ j. picked (e j) (others j)

site_same : (g : Setting) (f h : ℕ) (one other : Growing) → Same f h one other
    → (site : Site) (c : Context) (t : Tree) → steps t + 1 ≤ suc f → steps t + 1 ≤ suc h
    → picked (one elsewhere c t) (members g one (inside c) (alternatives g (with_place site) c t)) ≡
    picked (other elsewhere c t)
    (members g other (inside c) (alternatives g (with_place site) c t))
site_same g f h one other same site c t a b =
    both_same g f h one other same (one elsewhere c t) (other elsewhere c t)
    (same elsewhere c t (omega arith) (omega arith)) (with_place site) c t
    (placed_within f site c.scope g.rules t (omega arith))
    (placed_within h site c.scope g.rules t (omega arith))

pub enough : (g : Setting) → KeepPrimes g.rules → (f h : ℕ) → Same f h (grown g f) (grown g h)
enough g keeps zero h site c (node k ts) a b = absurd (omega arith)
enough g keeps (suc f) zero site c (node k ts) a b = absurd (omega arith)
enough g keeps (suc f) (suc h) elsewhere c t a b =
    both_same g f h (grown g f) (grown g h) (enough g keeps f h) (node_grown g (grown g f) c t)
    (node_grown g (grown g h) c t)
    (node_same g f h (grown g f) (grown g h) (enough g keeps f h) c t (omega arith)
    (omega arith)) without_place c t
    (alternatives_within f c.scope g.rules t keeps (omega arith))
    (alternatives_within h c.scope g.rules t keeps (omega arith))
enough g keeps (suc f) (suc h) site c t a b =
    site_same g f h (grown g f) (grown g h) (enough g keeps f h) site c t a b
