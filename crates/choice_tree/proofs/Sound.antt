-- What the weighted tree of a term gives, the rules make of it.
use Rattle.std.proofs.Common.{◌≡◌, ℕ, zero, suc, ◌+◌, Bool, true, false, if◌then◌else◌, List}
use Rattle.std.proofs.Common.{[], ◌∷◌, Option, refl, ap, ◌∙◌, inl, inr}
use Rattle.mpy_tree.specs.Trees.{Kind, Tree, Trees, node, no_trees, tree_and}
use Rattle.choice_tree.specs.Templates.{Correction}
use Rattle.choice_tree.specs.declared.rules.Place.{Place}
use Rattle.choice_tree.specs.Typing.{Scope, type_of, same_type, copy_of}
use Rattle.choice_tree.specs.Contexts.{Setting, Site, elsewhere}
use Rattle.choice_tree.specs.Contexts.{Context, site_below, line_below, below}
use Rattle.choice_tree.specs.Contexts.{inside, copies}
use Rattle.choice_tree.specs.Matching.{Bindings, without_place, with_place}
use Rattle.choice_tree.specs.Drafts.{Draft, Drafts, as_is, again, no_drafts, draft_and, filled}
use Rattle.choice_tree.specs.Drafts.{Proposal, proposals, proposals_from}
use Rattle.choice_tree.specs.Rewriting.{Edit, In, written, written_all, edit, Rewrites, RewritesAll}
use Rattle.choice_tree.specs.Rewriting.{Finishes, FinishesAll, kept, copied, replaced, replaced_at}
use Rattle.choice_tree.specs.Rewriting.{none, each, made, made_a_copy, rewritten, finished, and_all}
use Rattle.choice_tree.specs.WeightedTrees.{plainly, base_of, bases_of}
use Rattle.choice_tree.specs.WeightedTrees.{lifted}
use Rattle.choice_tree.specs.Growing.{Growing, is_alternative, alternatives, picked, parts_grown}
use Rattle.choice_tree.specs.Growing.{node_grown, draft_grown, drafts_grown, members, grown_by}
use Rattle.choice_tree.specs.Growing.{grown}
use Rattle.choice_tree.proofs.Giving.{Gives, GivesAll, GivesOther, lifted_gives}
use Rattle.choice_tree.proofs.Giving.{base_lifted, picked_gives, base_picked}
use Rattle.choice_tree.proofs.Lists.{in_filtered}
use Rattle.choice_tree.proofs.Types.{type_finished}

-- the rules make what the weighted trees give
abbrev pub Sound : Setting → Growing → Type 0
Sound g grow = (site : Site) (line : ℕ) (c : Context) (t t' : Tree) (n : ℕ) (es : List Edit)
    → Gives (grow site c t) line t' n es → Rewrites g site line c t t' n es

-- the base of a weighted tree is the term as it is written there
abbrev pub Based : Setting → Growing → Type 0
Based g grow = (site : Site) (c : Context) (t : Tree) → base_of (grow site c t) ≡ written g t c

parts_sound : (g : Setting) (grow : Growing) → Sound g grow
    → (ts : Trees) (k : Kind) (i : ℕ) (line : ℕ) (c : Context) (us : Trees) (n : ℕ) (es : List Edit)
    → GivesAll (parts_grown g grow ts k i c) line us n es → RewritesAll g k i line c ts us n es
parts_sound g grow sound no_trees k i line c us n es h = rw (h.0, h.1, h.2) none
parts_sound g grow sound (tree_and t ts) k i line c us n es h =
    let p = h.0 in
    rw (h.1, h.2, h.3) (each (sound (site_below k) line (below g k i c) t p.tree p.cost p.edits h.4)
    (parts_sound g grow sound ts k (suc i) line c p.trees p.costs p.more h.5))

node_sound_by : (g : Setting) (grow : Growing) → Sound g grow
    → (site : Site) (line : ℕ) (c : Context) (k : Kind) (ts : Trees) (t' : Tree) (n : ℕ)
    (es : List Edit) (b : Bool) → copies c (node k ts) ≡ b
    → Gives (if b then lifted (copy_of (node k ts)) else plainly k (parts_grown g grow ts k 0 c))
    line t' n es → Rewrites g site line c (node k ts) t' n es
node_sound_by g grow sound site line c k ts t' n es true e h =
    let r = lifted_gives (copy_of (node k ts)) line t' n es h in
    rw (r.0, r.1, r.2) (copied e)
node_sound_by g grow sound site line c k ts t' n es false e h =
    rw h.1 (kept e (parts_sound g grow sound ts k 0 (line_below k line) c h.0 n es h.2))

node_sound : (g : Setting) (grow : Growing) → Sound g grow
    → (site : Site) (line : ℕ) (c : Context) (t t' : Tree) (n : ℕ) (es : List Edit)
    → Gives (node_grown g grow c t) line t' n es → Rewrites g site line c t t' n es
node_sound g grow sound site line c (node k ts) t' n es h =
    node_sound_by g grow sound site line c k ts t' n es (copies c (node k ts)) refl h

draft_sound_by : (g : Setting) (grow : Growing) (k : Kind) (ds : Drafts) (line : ℕ) (c : Context)
    (t : Tree) (n : ℕ) (es : List Edit) (b : Bool) → copies c (filled (as_is k ds)) ≡ b
    → ((ts : Trees) → GivesAll (drafts_grown g grow ds k 0 c) (line_below k line) ts n es
    → FinishesAll g k 0 (line_below k line) c ds ts n es)
    → Gives (if b then lifted (copy_of (filled (as_is k ds))) else plainly k
    (drafts_grown g grow ds k 0 c)) line t n es → Finishes g line c (as_is k ds) t n es
draft_sound_by g grow k ds line c t n es true e parts h =
    let r = lifted_gives (copy_of (filled (as_is k ds))) line t n es h in
    rw (r.0, r.1, r.2) (made_a_copy e)
draft_sound_by g grow k ds line c t n es false e parts h = rw h.1 (made e (parts h.0 h.2))

mutual
  draft_sound : (g : Setting) (grow : Growing) → Sound g grow
      → (d : Draft) (line : ℕ) (c : Context) (t : Tree) (n : ℕ) (es : List Edit)
      → Gives (draft_grown g grow d c) line t n es → Finishes g line c d t n es
  draft_sound g grow sound (as_is k ds) line c t n es h =
      draft_sound_by g grow k ds line c t n es (copies c (filled (as_is k ds))) refl
      (λ ts parts. drafts_sound g grow sound ds k 0 (line_below k line) c ts n es parts) h
  draft_sound g grow sound (again u) line c t n es h = rewritten (sound elsewhere line c u t n es h)

  drafts_sound : (g : Setting) (grow : Growing) → Sound g grow
      → (ds : Drafts) (k : Kind) (i : ℕ) (line : ℕ) (c : Context) (ts : Trees) (n : ℕ)
      (es : List Edit) → GivesAll (drafts_grown g grow ds k i c) line ts n es
      → FinishesAll g k i line c ds ts n es
  drafts_sound g grow sound no_drafts k i line c ts n es h = rw (h.0, h.1, h.2) finished
  drafts_sound g grow sound (draft_and d ds) k i line c ts n es h =
      let p = h.0 in
      rw (h.1, h.2, h.3) (and_all
      (draft_sound g grow sound d line (below g k i c) p.tree p.cost p.edits h.4)
      (drafts_sound g grow sound ds k (suc i) line c p.trees p.costs p.more h.5))

-- a member that is given is one of the proposals, finished
record Member (g : Setting) (line : ℕ) (c : Context) (t : Tree) (ps : List Proposal) (t' : Tree)
    (n : ℕ) (es : List Edit) : Type 0 where
  pub proposal : Proposal
  pub listed : In proposal ps
  pub cost : ℕ
  pub edits : List Edit
  pub cost_is : n ≡ proposal.cost + cost
  pub edits_are : es ≡ edit g line c proposal.rule t t' ∷ edits
  pub finishes : Finishes g line (inside c) proposal.draft t' cost edits

member_later : (g : Setting) (line : ℕ) (c : Context) (t : Tree) (p : Proposal) (ps : List Proposal)
    (t' : Tree) (n : ℕ) (es : List Edit) → Member g line c t ps t' n es
    → Member g line c t (p ∷ ps) t' n es
member_later g line c t p ps t' n es m =
    record {
      proposal = m.proposal;
      listed = inr m.listed;
      cost = m.cost;
      edits = m.edits;
      cost_is =
          m.cost_is;
      edits_are = m.edits_are;
      finishes = m.finishes;
    }

members_sound : (g : Setting) (grow : Growing) → Sound g grow
    → (line : ℕ) (c : Context) (t : Tree) (ps : List Proposal) (t' : Tree) (n : ℕ) (es : List Edit)
    → GivesOther (members g grow (inside c) ps) line (written g t c) t' n es
    → Member g line c t ps t' n es
members_sound g grow sound line c t [] t' n es h = absurd h
members_sound g grow sound line c t (p ∷ ps) t' n es h = elim h [
  | inl this ↦ record {
    proposal = p;
    listed = inl refl;
    cost = this.0.cost;
    edits =
        this.0.edits;
    cost_is = this.1;
    edits_are = this.2;
    finishes =
        draft_sound g grow sound p.draft line (inside c) t' this.0.cost this.0.edits this.3;
  }
  | inr later ↦ member_later g line c t p ps t' n es
      (members_sound g grow sound line c t ps t' n es later)
]

-- an alternative, finished, has the term's type
alternative_typed : (g : Setting) (here : Place → Option Bindings) (line : ℕ) (c : Context)
    (t : Tree) (p : Proposal) (t' : Tree) (n : ℕ) (es : List Edit) → In p (alternatives g here c t)
    → Finishes g line (inside c) p.draft t' n es
    → In p (proposals here c.scope g.rules t)
    × (same_type (type_of c.scope t') (type_of c.scope t) ≡ true)
alternative_typed g here line c t p t' n es i fin =
    let r = in_filtered (is_alternative c.scope t) (proposals here c.scope g.rules t) p i in
    (r.0, ap (λ u. same_type u (type_of c.scope t)) (type_finished fin) ∙ r.1)

by_member : (g : Setting) (site : Site) (line : ℕ) (c : Context) (t t' : Tree) (n : ℕ)
    (es : List Edit) → Member g line c t (alternatives g without_place c t) t' n es
    → Rewrites g site line c t t' n es
by_member g site line c t t' n es m =
    let r =
    alternative_typed g without_place line c t m.proposal t' m.cost m.edits m.listed m.finishes
    in
    rw (m.cost_is, m.edits_are) (replaced m.proposal r.0 m.finishes r.1)

by_member_at : (g : Setting) (site : Site) (line : ℕ) (c : Context) (t t' : Tree) (n : ℕ)
    (es : List Edit) → Member g line c t (alternatives g (with_place site) c t) t' n es
    → Rewrites g site line c t t' n es
by_member_at g site line c t t' n es m =
    let r =
    alternative_typed g (with_place site) line c t m.proposal t' m.cost m.edits m.listed
    m.finishes in
    rw (m.cost_is, m.edits_are) (replaced_at m.proposal r.0 m.finishes r.1)

-- no rule with a place is proposed elsewhere
pub none_elsewhere : (σ : Scope) (t : Tree) (i : ℕ) (rules : List Correction) (p : Proposal)
    → In p (proposals_from (with_place elsewhere) σ t i rules) → ⊥
none_elsewhere σ t i [] p h = h
none_elsewhere σ t i (r ∷ rs) p h = none_elsewhere σ t (suc i) rs p h

anywhere : (g : Setting) (site : Site) (line : ℕ) (c : Context) (t t' : Tree) (n : ℕ)
    (es : List Edit) → Rewrites g elsewhere line c t t' n es → Rewrites g site line c t t' n es
anywhere g site line c _ _ _ _ (kept e all) = kept e all
anywhere g site line c _ _ _ _ (copied e) = copied e
anywhere g site line c _ _ _ _ (replaced p i fin h) = replaced p i fin h
anywhere g site line c t _ _ _ (replaced_at p i fin h) =
    absurd (none_elsewhere c.scope t 0 g.rules p i)

-- the term as it is written is what the rules make of it without an edit
written_by : (g : Setting) (site : Site) (line : ℕ) (k : Kind) (ts : Trees) (c : Context) (b : Bool)
    → copies c (node k ts) ≡ b
    → RewritesAll g k 0 (line_below k line) c ts (written_all g ts k 0 c) 0 []
    → Rewrites g site line c (node k ts)
    (if b then copy_of (node k ts) else node k (written_all g ts k 0 c)) 0 []
written_by g site line k ts c true e all = copied e
written_by g site line k ts c false e all = kept e all

mutual
  written_made : (g : Setting) (site : Site) (line : ℕ) (t : Tree) (c : Context)
      → Rewrites g site line c t (written g t c) 0 []
  written_made g site line (node k ts) c =
      written_by g site line k ts c (copies c (node k ts)) refl
      (written_all_made g ts k 0 (line_below k line) c)

  written_all_made : (g : Setting) (ts : Trees) (k : Kind) (i line : ℕ) (c : Context)
      → RewritesAll g k i line c ts (written_all g ts k i c) 0 []
  written_all_made g no_trees k i line c = none
  written_all_made g (tree_and t ts) k i line c =
      each (written_made g (site_below k) line t (below g k i c))
      (written_all_made g ts k (suc i) line c)

parts_based : (g : Setting) (grow : Growing) → Based g grow
    → (ts : Trees) (k : Kind) (i : ℕ) (c : Context)
    → bases_of (parts_grown g grow ts k i c) ≡ written_all g ts k i c
parts_based g grow based no_trees k i c = refl
parts_based g grow based (tree_and t ts) k i c =
    λ j. tree_and (based (site_below k) (below g k i c) t j)
    (parts_based g grow based ts k (suc i) c j)

node_based_by : (g : Setting) (grow : Growing) → Based g grow
    → (c : Context) (k : Kind) (ts : Trees) (b : Bool)
    → base_of (if b then lifted (copy_of (node k ts)) else plainly k (parts_grown g grow ts k 0 c))
    ≡ (if b then copy_of (node k ts) else node k (written_all g ts k 0 c))
node_based_by g grow based c k ts true = base_lifted (copy_of (node k ts))
node_based_by g grow based c k ts false = ap (node k) (parts_based g grow based ts k 0 c)

pub node_based : (g : Setting) (grow : Growing) → Based g grow → (c : Context) (t : Tree)
    → base_of (node_grown g grow c t) ≡ written g t c
node_based g grow based c (node k ts) = node_based_by g grow based c k ts (copies c (node k ts))

by_based : (g : Setting) (grow : Growing) → Based g grow → Based g (grown_by g grow)
by_based g grow based elsewhere c t =
    base_picked (node_grown g grow c t)
    (members g grow (inside c) (alternatives g without_place c t)) ∙ node_based g grow based c t
by_based g grow based site c t =
    base_picked (grow elsewhere c t)
    (members g grow (inside c) (alternatives g (with_place site) c t)) ∙ based elsewhere c t

pub grown_based : (g : Setting) (f : ℕ) → Based g (grown g f)
grown_based g zero site c t = base_lifted (written g t c)
grown_based g (suc f) site c t = by_based g (grown g f) (grown_based g f) site c t

site_sound : (g : Setting) (grow : Growing) → Sound g grow → Based g grow
    → (site : Site) (line : ℕ) (c : Context) (t t' : Tree) (n : ℕ) (es : List Edit)
    → Gives (picked (grow elsewhere c t)
    (members g grow (inside c) (alternatives g (with_place site) c t))) line t' n es
    → Rewrites g site line c t t' n es
site_sound g grow sound based site line c t t' n es h =
    let ps = alternatives g (with_place site) c t in
    elim (picked_gives (grow elsewhere c t) (members g grow (inside c) ps) line t' n es h) [
      | inl base ↦ anywhere g site line c t t' n es (sound elsewhere line c t t' n es base)
      | inr other ↦ by_member_at g site line c t t' n es
          (members_sound g grow sound line c t ps t' n es (rw (based elsewhere c t) at other))
    ]

by_sound : (g : Setting) (grow : Growing) → Sound g grow → Based g grow → Sound g (grown_by g grow)
by_sound g grow sound based elsewhere line c t t' n es h =
    let ps = alternatives g without_place c t in
    elim (picked_gives (node_grown g grow c t) (members g grow (inside c) ps) line t' n es h) [
      | inl base ↦ node_sound g grow sound elsewhere line c t t' n es base
      | inr other ↦ by_member g elsewhere line c t t' n es
          (members_sound g grow sound line c t ps t' n es
          (rw (node_based g grow based c t) at other))
    ]
by_sound g grow sound based site line c t t' n es h =
    site_sound g grow sound based site line c t t' n es h

pub grown_sound : (g : Setting) (f : ℕ) → Sound g (grown g f)
grown_sound g zero site line c t t' n es h =
    let r = lifted_gives (written g t c) line t' n es h in
    rw (r.0, r.1, r.2) (written_made g site line t c)
grown_sound g (suc f) site line c t t' n es h =
    by_sound g (grown g f) (grown_sound g f) (grown_based g f) site line c t t' n es h
