-- A rewriting that costs nothing is the submission itself.
use Rattle.std.proofs.Common.{◌≡◌, ℕ, zero, suc, ◌≤◌, Bool, true, false, ◌&&◌, List, [], ◌∷◌, Option, All, refl, ap, ◌∙◌, arith}
use Rattle.std.proofs.lemmas.List.Elements.{All-head, All-tail}
use Rattle.mpy_tree.specs.Trees as kind
use Rattle.mpy_tree.specs.Trees.{Kind, Tree, Trees, node, no_trees, tree_and}
use Rattle.choice_tree.specs.declared.rules.Place.{Place}
use Rattle.choice_tree.specs.Contexts.{Setting, Site, Context, Sharing, below, copies, is_copied, sharing_below}
use Rattle.choice_tree.specs.Drafts.{Draft, Proposal, proposal, proposals, proposals_from, proposed}
use Rattle.choice_tree.specs.Matching.{Bindings}
use Rattle.choice_tree.specs.Rewriting.{Edit, In, Rewrites, RewritesAll, kept, copied, replaced, replaced_at, none, each}
use Rattle.choice_tree.specs.Templates.{Correction}
use Rattle.choice_tree.specs.Typing.{Scope, is_list_name}
use Rattle.choice_tree.proofs.Lists.{Each, each_any, each_append, each_in, each_map}

-- CONTEXTS OUTSIDE OF ALTERNATIVES

both_off : (a b : Bool) → b ≡ false → (a && b) ≡ false
both_off true b off = off
both_off false b off = refl

copies_off : (c : Context) (t : Tree) → is_copied c.sharing ≡ false → copies c t ≡ false
copies_off c t off = both_off (is_list_name c.scope t) (is_copied c.sharing) off

off_below : (k : Kind) (i : ℕ) (s : Sharing) → is_copied s ≡ false → is_copied (sharing_below k i s) ≡ false
off_below (kind.Int n) i s off = refl
off_below (kind.Bool b) i s off = refl
off_below (kind.Text cs) i s off = refl
off_below (kind.Name x) i s off = refl
off_below kind.List i s off = refl
off_below kind.Neg i s off = refl
off_below kind.Not i s off = refl
off_below (kind.Arith op) i s off = refl
off_below (kind.Cmp op) i s off = refl
off_below kind.And i s off = refl
off_below kind.Or i s off = refl
off_below kind.Cond zero s off = off
off_below kind.Cond (suc zero) s off = refl
off_below kind.Cond (suc (suc i)) s off = off
off_below kind.Index i s off = refl
off_below (kind.Slice from to) i s off = refl
off_below (kind.Call f) i s off = refl
off_below (kind.Assign line x) i s off = refl
off_below (kind.Augment line x op) i s off = refl
off_below (kind.Put line x) i s off = refl
off_below (kind.AugmentAt line x op) i s off = refl
off_below (kind.Append line x) i s off = refl
off_below (kind.Print line) i s off = refl
off_below (kind.Return line) i s off = refl
off_below (kind.Pass line) i s off = refl
off_below (kind.Break line) i s off = refl
off_below (kind.Continue line) i s off = refl
off_below (kind.If line) i s off = refl
off_below (kind.Arm line) i s off = refl
off_below (kind.While line) i s off = refl
off_below (kind.For line x) i s off = refl
off_below kind.Block i s off = refl
off_below (kind.Function line f params) i s off = refl
off_below kind.Program i s off = refl

-- THE WHOLE STAYS

mutual
  pub kept_whole : (g : Setting) (site : Site) (line : ℕ) (c : Context) (t : Tree) → is_copied c.sharing ≡ false → Rewrites g site line c t t 0 []
  kept_whole g site line c (node k ts) off = kept (copies_off c (node k ts) off) (all_kept g k 0 _ c ts off)

  all_kept : (g : Setting) (k : Kind) (i line : ℕ) (c : Context) (ts : Trees) → is_copied c.sharing ≡ false → RewritesAll g k i line c ts ts 0 []
  all_kept g k i line c no_trees off = none
  all_kept g k i line c (tree_and t ts) off =
      each (kept_whole g _ line (below g k i c) t (off_below k i c.sharing off)) (all_kept g k (suc i) line c ts off)

-- A REPLACEMENT COSTS SOMETHING

abbrev pub IsDear : Correction → Type 0
IsDear r = 1 ≤ r.cost

abbrev Costs : Proposal → Type 0
Costs p = 1 ≤ p.cost

all_cost : (here : Place → Option Bindings) (σ : Scope) (t : Tree) (i : ℕ) (rs : List Correction) → All IsDear rs → Each Costs (proposals_from here σ t i rs)
all_cost here σ t i [] dear = tt
all_cost here σ t i (r ∷ rs) dear =
    let one : IsDear r = All-head IsDear r rs dear in
    each_append Costs (proposed here σ t i r) (proposals_from here σ t (suc i) rs)
    (each_map (λ (d : Draft). Unit {0}) Costs (proposal i r.cost) _ (λ d h. one) (each_any (λ (d : Draft). Unit {0}) _ (λ d. tt)))
    (all_cost here σ t (suc i) rs (All-tail IsDear r rs dear))

costs : (here : Place → Option Bindings) (σ : Scope) (t : Tree) (rs : List Correction) (p : Proposal) → All IsDear rs → In p (proposals here σ rs t) → 1 ≤ p.cost
costs here σ t rs p dear is = each_in Costs (proposals here σ rs t) p (all_cost here σ t 0 rs dear) is

-- NO COST

off_and_on : {A : Type 0} (b : Bool) → b ≡ true → b ≡ false → A
off_and_on b on off = cc

mutual
  pub free_is_whole : (g : Setting) {site : Site} {line : ℕ} {c : Context} {t t' : Tree} {n : ℕ} {es : List Edit} → All IsDear g.rules
      → Rewrites g site line c t t' n es → n ≡ 0 → is_copied c.sharing ≡ false → t' ≡ t
  free_is_whole g dear (kept {k = k} e parts) free off = ap (node k) (all_free g dear parts free off)
  free_is_whole g {c = c} dear (copied {k = k} {ts = ts} e) free off = off_and_on (copies c (node k ts)) e (copies_off c (node k ts) off)
  free_is_whole g {c = c} {t = t} dear (replaced p is finish e) free off = absurd (let some = costs _ c.scope t g.rules p dear is in omega (arith, some, free))
  free_is_whole g {c = c} {t = t} dear (replaced_at p is finish e) free off = absurd (let some = costs _ c.scope t g.rules p dear is in omega (arith, some, free))

  all_free : (g : Setting) {k : Kind} {i line : ℕ} {c : Context} {ts ts' : Trees} {n : ℕ} {es : List Edit} → All IsDear g.rules
      → RewritesAll g k i line c ts ts' n es → n ≡ 0 → is_copied c.sharing ≡ false → ts' ≡ ts
  all_free g dear none free off = refl
  all_free g {k = k} {i = i} {c = c} dear (each {t = t} {t' = t'} {ts = ts} {ts' = ts'} {n = n} {m = m} first rest) free off =
      ap (λ x. tree_and x ts') (free_is_whole g dear first (omega (arith, free)) (off_below k i c.sharing off))
      ∙ ap (tree_and t) (all_free g dear rest (omega (arith, free)) off)
