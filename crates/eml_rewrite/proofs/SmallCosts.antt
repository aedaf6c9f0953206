-- The costs in the weighted tree of a program, against its size: each member is an expression.
use Rattle.std.proofs.Common.{◌≡◌, ℕ, zero, suc, ◌*◌, ◌≤◌, Bool, true, false, cond}
use Rattle.std.proofs.Common.{if◌then◌else◌, List, [], ◌∷◌, map, filter, Option, refl}
use Rattle.std.proofs.Common.{arith}
use Rattle.std.specs.Prelude.{All}
use Rattle.std.proofs.lemmas.List.Elements.{All-head, All-tail}
use Rattle.mpy_tree.specs.declared.typing.Ty.{Ty}
use Rattle.mpy_tree.specs.Syntax.{Routine}
use Rattle.mpy_tree.specs.Shapes.{program_shape}
use Rattle.mpy_tree.specs.Trees.{Kind, Tree, Trees, node, no_trees, tree_and}
use Rattle.choice_tree.specs.declared.rules.Place.{Place}
use Rattle.choice_tree.specs.Contexts.{Setting, Site, elsewhere, at_return, at_assign, at_if}
use Rattle.choice_tree.specs.Contexts.{at_while, at_for, Context, site_below, below, copies, inside}
use Rattle.choice_tree.specs.Contexts.{outermost}
use Rattle.choice_tree.specs.Costs.{all_costs}
use Rattle.choice_tree.specs.Drafts.{Draft, Drafts, as_is, again, no_drafts, draft_and, filled}
use Rattle.choice_tree.specs.Drafts.{Proposal, proposal, proposals_from, resolved}
use Rattle.choice_tree.specs.Matching.{Bindings, here, matches, together}
use Rattle.choice_tree.specs.Rewriting.{written_all}
use Rattle.choice_tree.specs.Templates.{Correction}
use Rattle.choice_tree.specs.Typing.{Scope, type_of, types_of, same_type, copy_of}
use Rattle.choice_tree.specs.WeightedTrees.{Weighted, Weighteds, Others, plainly, no_others}
use Rattle.choice_tree.specs.WeightedTrees.{other_and, lifted, node_size, size}
use Rattle.choice_tree.specs.Growing.{Growing, alternatives, is_alternative, picked, parts_grown}
use Rattle.choice_tree.specs.Growing.{node_grown, draft_grown, drafts_grown, members, base_grown}
use Rattle.choice_tree.specs.Growing.{grown, steps, weighted_program}
use Rattle.choice_tree.proofs.Lists.{Each, each_append, each_map, each_any}
use Rattle.eml_rewrite.proofs.Sizes.{typed_expression}
use Rattle.eml_rewrite.proofs.TreeCosts.{Cheap, AllCheap, OthersCheap, root_size}
use Rattle.eml_rewrite.proofs.TreeCosts.{free_cheap, copy_cheap, none_cheap, part_cheap, node_cheap}
use Rattle.eml_rewrite.proofs.TreeCosts.{no_member_cheap, member_cheap, pick_cheap, cheap_is}
use Rattle.eml_rewrite.proofs.TreeCosts.{costs_numbered, size_numbered}

-- each tree that grows is cheap, and its root carries one cost more
abbrev CheapBy : ℕ → Growing → Type 0
CheapBy n grow = (site : Site) (c : Context) (t : Tree) → Cheap n (root_size t) (grow site c t)

parts_cheap : (n : ℕ) (g : Setting) (grow : Growing) → CheapBy n grow → (ts : Trees) (k : Kind)
    (i : ℕ) (c : Context) → AllCheap n (parts_grown g grow ts k i c)
parts_cheap n g grow cheap no_trees k i c = none_cheap n
parts_cheap n g grow cheap (tree_and t ts) k i c =
    part_cheap n (root_size t) (grow (site_below k) (below g k i c) t)
    (parts_grown g grow ts k (suc i) c) (cheap (site_below k) (below g k i c) t)
    (parts_cheap n g grow cheap ts k (suc i) c)

-- a copy of a list, or the node
either_cheap : (n : ℕ) (b : Bool) (k : Kind) (t : Tree) (ws : Weighteds) → AllCheap n ws
    → Cheap n (node_size k) (if b then lifted (copy_of t) else plainly k ws)
either_cheap n true k t ws h = copy_cheap n k t
either_cheap n false k t ws h = node_cheap n k ws h

kept_cheap : (n : ℕ) (g : Setting) (grow : Growing) → CheapBy n grow → (c : Context) (t : Tree)
    → Cheap n (root_size t) (node_grown g grow c t)
kept_cheap n g grow cheap c (node k ts) =
    either_cheap n (copies c (node k ts)) k (node k ts) (parts_grown g grow ts k 0 c)
    (parts_cheap n g grow cheap ts k 0 c)

mutual
  draft_cheap : (n : ℕ) (g : Setting) (grow : Growing) → CheapBy n grow → (d : Draft)
      (c : Context) → Cheap n (root_size (filled d)) (draft_grown g grow d c)
  draft_cheap n g grow cheap (as_is k ds) c =
      either_cheap n (copies c (filled (as_is k ds))) k (filled (as_is k ds))
      (drafts_grown g grow ds k 0 c) (drafts_cheap n g grow cheap ds k 0 c)
  draft_cheap n g grow cheap (again t) c = cheap elsewhere c t

  drafts_cheap : (n : ℕ) (g : Setting) (grow : Growing) → CheapBy n grow → (ds : Drafts)
      (k : Kind) (i : ℕ) (c : Context) → AllCheap n (drafts_grown g grow ds k i c)
  drafts_cheap n g grow cheap no_drafts k i c = none_cheap n
  drafts_cheap n g grow cheap (draft_and d ds) k i c =
      part_cheap n (root_size (filled d)) (draft_grown g grow d (below g k i c))
      (drafts_grown g grow ds k (suc i) c) (draft_cheap n g grow cheap d (below g k i c))
      (drafts_cheap n g grow cheap ds k (suc i) c)

-- a term that has a type has a node at its root
typed_root : (σ : Scope) (t : Tree) (o : Option Ty) → same_type (type_of σ t) o ≡ true
    → root_size t ≡ 1
typed_root σ (node k ts) o h = rw (typed_expression σ k (types_of σ ts) o h) refl

-- a proposal that costs no more than n
abbrev Affordable : ℕ → Proposal → Type 0
Affordable n p = p.cost ≤ n

members_cheap : (n : ℕ) (g : Setting) (grow : Growing) → CheapBy n grow → (σ : Scope)
    (c : Context) (t : Tree) (ps : List Proposal) → Each (Affordable n) ps
    → OthersCheap n (members g grow c (filter (is_alternative σ t) ps))
members_cheap n g grow cheap σ c t [] h = no_member_cheap n
members_cheap n g grow cheap σ c t (p ∷ ps) h =
    one_more (is_alternative σ t p) refl (members_cheap n g grow cheap σ c t ps h.1)
  where
    one_more : (b : Bool) → is_alternative σ t p ≡ b
        → OthersCheap n (members g grow c (filter (is_alternative σ t) ps))
        → OthersCheap n (members g grow c (cond b (p ∷ filter (is_alternative σ t) ps)
        (filter (is_alternative σ t) ps)))
    one_more true e rest =
        let tree = draft_cheap n g grow cheap p.draft c in
        member_cheap n p.rule p.cost (draft_grown g grow p.draft c)
        (members g grow c (filter (is_alternative σ t) ps)) h.0
        (rw (typed_root σ (filled p.draft) (type_of σ t) e) at tree) rest
    one_more false e rest = rest

-- what rules propose costs no more than they do
proposals_affordable : (n : ℕ) (here : Place → Option Bindings) (σ : Scope) (t : Tree) (i : ℕ)
    (rules : List Correction) → All (λ r. r.cost ≤ n) rules
    → Each (Affordable n) (proposals_from here σ t i rules)
proposals_affordable n here σ t i [] h = tt
proposals_affordable n here σ t i (r ∷ rs) h =
    let drafts = resolved σ r.right (together (here r.place) (matches r.left t)) in
    each_append (Affordable n) (map (proposal i r.cost) drafts)
    (proposals_from here σ t (suc i) rs)
    (each_map (λ d. r.cost ≤ n) (Affordable n) (proposal i r.cost) drafts (λ d k. k)
    (each_any (λ d. r.cost ≤ n) drafts (λ d. All-head (λ r. r.cost ≤ n) r rs h)))
    (proposals_affordable n here σ t (suc i) rs (All-tail (λ r. r.cost ≤ n) r rs h))

alternatives_cheap : (n : ℕ) (g : Setting) → All (λ r. r.cost ≤ n) g.rules → (grow : Growing)
    → CheapBy n grow → (here : Place → Option Bindings) (c d : Context) (t : Tree)
    → OthersCheap n (members g grow d (alternatives g here c t))
alternatives_cheap n g few grow cheap here c d t =
    members_cheap n g grow cheap c.scope d t (proposals_from here c.scope t 0 g.rules)
    (proposals_affordable n here c.scope t 0 g.rules few)

base_cheap : (n : ℕ) (g : Setting) (grow : Growing) → CheapBy n grow → (site : Site)
    (c : Context) (t : Tree) → Cheap n (root_size t) (base_grown g grow site c t)
base_cheap n g grow cheap elsewhere c t = kept_cheap n g grow cheap c t
base_cheap n g grow cheap at_return c t = cheap elsewhere c t
base_cheap n g grow cheap (at_assign x) c t = cheap elsewhere c t
base_cheap n g grow cheap at_if c t = cheap elsewhere c t
base_cheap n g grow cheap at_while c t = cheap elsewhere c t
base_cheap n g grow cheap (at_for x) c t = cheap elsewhere c t

picked_cheap : (n spare : ℕ) (base : Weighted) (os : Others) → Cheap n spare base
    → OthersCheap n os → Cheap n spare (picked base os)
picked_cheap n spare base no_others a b = a
picked_cheap n spare base (other_and rule cost w os) a b =
    pick_cheap n spare 0 base (other_and rule cost w os) a b

written_cheap : (n : ℕ) (b : Bool) (k : Kind) (ts us : Trees)
    → Cheap n (node_size k) (lifted (if b then copy_of (node k ts) else node k us))
written_cheap n true k ts us = copy_cheap n k (node k ts)
written_cheap n false k ts us = free_cheap n (node_size k) (node k us) (omega arith)

pub grown_cheap : (n : ℕ) (g : Setting) → All (λ r. r.cost ≤ n) g.rules → (f : ℕ)
    → CheapBy n (grown g f)
grown_cheap n g few zero site c (node k ts) =
    written_cheap n (copies c (node k ts)) k ts (written_all g ts k 0 c)
grown_cheap n g few (suc f) site c t =
    picked_cheap n (root_size t) (base_grown g (grown g f) site c t)
    (members g (grown g f) (inside c) (alternatives g (here site) c t))
    (base_cheap n g (grown g f) (grown_cheap n g few f) site c t)
    (alternatives_cheap n g few (grown g f) (grown_cheap n g few f) (here site) c (inside c) t)

pub program_cheap : (n : ℕ) (g : Setting) (s : List Routine) → All (λ r. r.cost ≤ n) g.rules
    → all_costs (weighted_program g s) ≤ n * size (weighted_program g s)
program_cheap n g s few =
    let t = program_shape s in
    let w = grown g (steps t) elsewhere (outermost g) t in
    let h = cheap_is n (root_size t) w (grown_cheap n g few (steps t) elsewhere (outermost g) t) in
    rw (costs_numbered w 0, size_numbered w 0) h
