-- The weighted trees that grow of an expression have its type.
use Rattle.std.proofs.Common.{◌≡◌, ℕ, zero, suc, Bool, true, false, List, [], ◌∷◌, filter, refl}
use Rattle.std.proofs.Common.{sym, ap, ◌∙◌, subst, cond, Option, Some, None, IsSome, is_some}
use Rattle.std.specs.Prelude.{if◌then◌else◌}
use Rattle.mpy_tree.specs.declared.typing.Ty.{Ty}
use Rattle.mpy_tree.specs.declared.typing.Ty.TheVariants as ty
use Rattle.mpy_tree.specs.Options.{◌>>=◌}
use Rattle.mpy_tree.specs.Rules.{choice_type}
use Rattle.mpy_tree.specs.Trees as kind
use Rattle.mpy_tree.specs.Trees.{Kind, Tree, Trees, node, no_trees, tree_and}
use Rattle.choice_tree.specs.Contexts.{Context, Setting, Site, below, copies, elsewhere, inside}
use Rattle.choice_tree.specs.Contexts.{at_assign, at_for, at_if, at_return, at_while, scope_below}
use Rattle.choice_tree.specs.Contexts.{site_below}
use Rattle.choice_tree.specs.Drafts.{Draft, Drafts, Proposal, again, as_is, draft_and, filled}
use Rattle.choice_tree.specs.Drafts.{filled_all, no_drafts, proposals}
use Rattle.choice_tree.specs.Growing.{Growing, alternatives, base_grown, draft_grown, drafts_grown}
use Rattle.choice_tree.specs.Growing.{grown, is_alternative, members, node_grown, parts_grown}
use Rattle.choice_tree.specs.Growing.{picked}
use Rattle.choice_tree.specs.Heads.{HasParts}
use Rattle.choice_tree.specs.Matching.{here}
use Rattle.choice_tree.specs.Rewriting.{written, written_all}
use Rattle.choice_tree.specs.Typing.{Scope, copy_of, node_type, same_type}
use Rattle.choice_tree.specs.Typing as trees
use Rattle.choice_tree.specs.WeightedTrees.{Others, Weighted, Weighteds, lifted, lifted_all}
use Rattle.choice_tree.specs.WeightedTrees.{no_others, other_and, plainly}
use Rattle.choice_tree.proofs.Lists.{Each}
use Rattle.choice_tree.proofs.Types.{copy_typed, same_type_is}
use Rattle.sym_nodes.specs.Members.{common, common_type}
use Rattle.sym_nodes.proofs.TypeRules.{some_type}
use Rattle.sym_nodes.specs.Plain.{other_types, type_of, types_of, where_all}
use Rattle.typed_trees.specs.Wholes.{AreWhole, IsWhole, MakeWholes, part_count}
use Rattle.typed_trees.proofs.PartTypes.{AllThere, parts_there}
use Rattle.typed_trees.proofs.WholeDrafts.{wholes_proposed}

-- an expression's tree that has a type
abbrev pub Stands : Scope → Tree → Type 0
Stands σ t = IsWhole t × IsSome (trees.type_of σ t)

abbrev pub AllStand : Scope → Trees → Type 0
AllStand σ ts = AreWhole ts × AllThere (trees.types_of σ ts)

parts_stand : (σ : Scope) (k : Kind) (ts : Trees) → Stands σ (node k ts) → AllStand σ ts
parts_stand σ k ts h =
    let typed = some_type (trees.type_of σ (node k ts)) h.1 in
    (h.0.1, parts_there σ k ts typed.0 h.0.0 typed.1)

where_there : (os : List (Option Ty)) (r : Option Ty) → AllThere os → where_all os r ≡ r
where_there [] r h = refl
where_there (None ∷ os) r h = cc
where_there (Some t ∷ os) r h = where_there os r h.1

-- a node whose parts have the types of the tree's parts
node_keeps : (σ : Scope) (k : Kind) (ts : Trees) (ws : Weighteds) → Stands σ (node k ts)
    → types_of σ ws ≡ trees.types_of σ ts → type_of σ (plainly k ws) ≡ trees.type_of σ (node k ts)
node_keeps σ k ts ws h same =
    ap (λ os. where_all os (node_type σ k os)) same
    ∙ where_there (trees.types_of σ ts) (trees.type_of σ (node k ts)) (parts_stand σ k ts h).1

-- a tree without picks
mutual
  pub lifted_keeps : (σ : Scope) (t : Tree) → Stands σ t
      → type_of σ (lifted t) ≡ trees.type_of σ t
  lifted_keeps σ (node k ts) h =
      node_keeps σ k ts (lifted_all ts) h (lifteds_keep σ ts (parts_stand σ k ts h))

  lifteds_keep : (σ : Scope) (ts : Trees) → AllStand σ ts
      → types_of σ (lifted_all ts) ≡ trees.types_of σ ts
  lifteds_keep σ no_trees h = refl
  lifteds_keep σ (tree_and t ts) h =
      λ i. lifted_keeps σ t (h.0.0, h.1.0) i ∷ lifteds_keep σ ts (h.0.1, h.1.1) i

-- a copy of a list's name, or the node
either_keeps : (c : Context) (k : Kind) (ts : Trees) (ws : Weighteds) (b : Bool)
    → copies c (node k ts) ≡ b → Stands c.scope (node k ts)
    → types_of c.scope ws ≡ trees.types_of c.scope ts
    → type_of c.scope (if b then lifted (copy_of (node k ts)) else plainly k ws)
    ≡ trees.type_of c.scope (node k ts)
either_keeps c k ts ws true e h same =
    let copied = copy_typed c (node k ts) e in
    lifted_keeps c.scope (copy_of (node k ts)) ((refl, (h.0, tt)), ap is_some copied ∙ h.1) ∙ copied
either_keeps c k ts ws false e h same = node_keeps c.scope k ts ws h same

-- an expression's parts stand in the same function
same_scope : (g : Setting) (k : Kind) (count : ℕ) → HasParts k count → (i : ℕ) (σ : Scope)
    → scope_below g k i σ ≡ σ
same_scope g kind.Program count h i σ = absurd h
same_scope g k count h i σ = refl

-- of a part of such a node
part_keeps : (g : Setting) (k : Kind) (i : ℕ) (c : Context) (t : Tree) (w : Weighted)
    → scope_below g k i c.scope ≡ c.scope → Stands c.scope t
    → (Stands (below g k i c).scope t
    → type_of (below g k i c).scope w ≡ trees.type_of (below g k i c).scope t)
    → type_of c.scope w ≡ trees.type_of c.scope t
part_keeps g k i c t w same h keeps =
    let P : Scope → Type 0 = λ σ. Stands σ t → type_of σ w ≡ trees.type_of σ t in
    subst P same keeps h

either_written : (c : Context) (k : Kind) (ts us : Trees) (b : Bool)
    → copies c (node k ts) ≡ b → Stands c.scope (node k ts)
    → types_of c.scope (lifted_all us) ≡ trees.types_of c.scope ts
    → type_of c.scope (lifted (if b then copy_of (node k ts) else node k us))
    ≡ trees.type_of c.scope (node k ts)
either_written c k ts us true e h same = either_keeps c k ts (lifted_all us) true e h same
either_written c k ts us false e h same = either_keeps c k ts (lifted_all us) false e h same

-- the term as it is written
mutual
  written_keeps : (g : Setting) (t : Tree) (c : Context) → Stands c.scope t
      → type_of c.scope (lifted (written g t c)) ≡ trees.type_of c.scope t
  written_keeps g (node k ts) c h =
      either_written c k ts (written_all g ts k 0 c) (copies c (node k ts)) refl h
      (writtens_keep g ts k 0 c (same_scope g k (part_count ts) h.0.0) (parts_stand c.scope k ts h))

  writtens_keep : (g : Setting) (ts : Trees) (k : Kind) (i : ℕ) (c : Context)
      → ((j : ℕ) (σ : Scope) → scope_below g k j σ ≡ σ) → AllStand c.scope ts
      → types_of c.scope (lifted_all (written_all g ts k i c)) ≡ trees.types_of c.scope ts
  writtens_keep g no_trees k i c same h = refl
  writtens_keep g (tree_and t ts) k i c same h =
      let first =
      part_keeps g k i c t (lifted (written g t (below g k i c))) (same i c.scope) (h.0.0, h.1.0)
      (written_keeps g t (below g k i c)) in
      λ j. first j ∷ writtens_keep g ts k (suc i) c same (h.0.1, h.1.1) j

-- the members besides the base are whole terms of the base's type
abbrev IsOfType : Scope → Ty → Proposal → Type 0
IsOfType σ u p = IsWhole (filled p.draft) × (trees.type_of σ (filled p.draft) ≡ Some u)

of_type_if : (σ : Scope) (t : Tree) (u : Ty) (p : Proposal) (ps : List Proposal) (b : Bool)
    → trees.type_of σ t ≡ Some u → IsWhole (filled p.draft) → is_alternative σ t p ≡ b
    → Each (IsOfType σ u) ps → Each (IsOfType σ u) (cond b (p ∷ ps) ps)
of_type_if σ t u p ps true e whole kept rest =
    let same = same_type_is (trees.type_of σ (filled p.draft)) (trees.type_of σ t) kept in
    ((whole, same ∙ e), rest)
of_type_if σ t u p ps false e whole kept rest = rest

of_type_kept : (σ : Scope) (t : Tree) (u : Ty) (ps : List Proposal) → trees.type_of σ t ≡ Some u
    → Each (λ p. IsWhole (filled p.draft)) ps
    → Each (IsOfType σ u) (filter (is_alternative σ t) ps)
of_type_kept σ t u [] e h = tt
of_type_kept σ t u (p ∷ ps) e h =
    of_type_if σ t u p (filter (is_alternative σ t) ps) (is_alternative σ t p) e h.0 refl
    (of_type_kept σ t u ps e h.1)

-- what grows has the type of its term
abbrev pub KeepsTypes : Growing → Type 0
KeepsTypes grow = (site : Site) (c : Context) (t : Tree) → Stands c.scope t
    → type_of c.scope (grow site c t) ≡ trees.type_of c.scope t

module _ (g : Setting) (grow : Growing) (keeps : KeepsTypes grow) where
  parts_keep : (ts : Trees) (k : Kind) (i : ℕ) (c : Context)
      → ((j : ℕ) (σ : Scope) → scope_below g k j σ ≡ σ) → AllStand c.scope ts
      → types_of c.scope (parts_grown g grow ts k i c) ≡ trees.types_of c.scope ts
  parts_keep no_trees k i c same h = refl
  parts_keep (tree_and t ts) k i c same h =
      let first =
      part_keeps g k i c t (grow (site_below k) (below g k i c) t) (same i c.scope) (h.0.0, h.1.0)
      (keeps (site_below k) (below g k i c) t) in
      λ j. first j ∷ parts_keep ts k (suc i) c same (h.0.1, h.1.1) j

  pub node_grows : (c : Context) (t : Tree) → Stands c.scope t
      → type_of c.scope (node_grown g grow c t) ≡ trees.type_of c.scope t
  node_grows c (node k ts) h =
      either_keeps c k ts (parts_grown g grow ts k 0 c) (copies c (node k ts)) refl h
      (parts_keep ts k 0 c (same_scope g k (part_count ts) h.0.0) (parts_stand c.scope k ts h))

  mutual
    draft_grows : (d : Draft) (c : Context) → Stands c.scope (filled d)
        → type_of c.scope (draft_grown g grow d c) ≡ trees.type_of c.scope (filled d)
    draft_grows (as_is k ds) c h =
        either_keeps c k (filled_all ds) (drafts_grown g grow ds k 0 c)
        (copies c (filled (as_is k ds))) refl h
        (drafts_grow ds k 0 c (same_scope g k (part_count (filled_all ds)) h.0.0)
        (parts_stand c.scope k (filled_all ds) h))
    draft_grows (again t) c h = keeps elsewhere c t h

    drafts_grow : (ds : Drafts) (k : Kind) (i : ℕ) (c : Context)
        → ((j : ℕ) (σ : Scope) → scope_below g k j σ ≡ σ) → AllStand c.scope (filled_all ds)
        → types_of c.scope (drafts_grown g grow ds k i c) ≡ trees.types_of c.scope (filled_all ds)
    drafts_grow no_drafts k i c same h = refl
    drafts_grow (draft_and d ds) k i c same h =
        let first =
        part_keeps g k i c (filled d) (draft_grown g grow d (below g k i c)) (same i c.scope)
        (h.0.0, h.1.0) (draft_grows d (below g k i c)) in
        λ j. first j ∷ drafts_grow ds k (suc i) c same (h.0.1, h.1.1) j

  members_grow : (c : Context) (u : Ty) (ps : List Proposal) → Each (IsOfType c.scope u) ps
      → Each (λ o. o ≡ Some u) (other_types c.scope (members g grow c ps))
  members_grow c u [] h = tt
  members_grow c u (p ∷ ps) h = (
    draft_grows p.draft c (h.0.0, ap is_some h.0.1) ∙ h.0.1,
    members_grow c u ps h.1,
  )

  base_grows : (site : Site) (c : Context) (t : Tree) → Stands c.scope t
      → type_of c.scope (base_grown g grow site c t) ≡ trees.type_of c.scope t
  base_grows elsewhere c t h = node_grows c t h
  base_grows at_return c t h = keeps elsewhere c t h
  base_grows (at_assign x) c t h = keeps elsewhere c t h
  base_grows at_if c t h = keeps elsewhere c t h
  base_grows at_while c t h = keeps elsewhere c t h
  base_grows (at_for x) c t h = keeps elsewhere c t h

-- members of one type
one_choice : (u : Ty) → choice_type u u ≡ Some u
one_choice ty.Int = refl
one_choice ty.Bool = refl
one_choice ty.List = refl
one_choice ty.Text = refl

one_type : (u : Ty) (os : List (Option Ty)) → Each (λ o. o ≡ Some u) os → common u os ≡ Some u
one_type u [] h = refl
one_type u (o ∷ os) h =
    ap (λ q. q >>= λ w. choice_type u w >>= λ v. common u os) h.0
    ∙ ap (λ q. q >>= λ v. common u os) (one_choice u) ∙ one_type u os h.1

picked_keeps : (σ : Scope) (u : Ty) (base : Weighted) (os : Others) → type_of σ base ≡ Some u
    → Each (λ o. o ≡ Some u) (other_types σ os) → type_of σ (picked base os) ≡ Some u
picked_keeps σ u base no_others e h = e
picked_keeps σ u base (other_and rule cost w os) e h =
    ap (λ o. common_type (o ∷ type_of σ w ∷ other_types σ os)) e
    ∙ one_type u (type_of σ w ∷ other_types σ os) h

pub grown_keeps : (g : Setting) → MakeWholes g.rules → (n : ℕ) → KeepsTypes (grown g n)
grown_keeps g wholes zero site c t h = written_keeps g t c h
grown_keeps g wholes (suc n) site c t h =
    let typed = some_type (trees.type_of c.scope t) h.1 in
    let base = base_grows g (grown g n) (grown_keeps g wholes n) site c t h in
    let ps = alternatives g (here site) c t in
    let proposed = proposals (here site) c.scope g.rules t in
    let whole = wholes_proposed site c.scope g.rules t wholes h.0 in
    let typed_ps = of_type_kept c.scope t typed.0 proposed typed.1 whole in
    picked_keeps c.scope typed.0 (base_grown g (grown g n) site c t)
    (members g (grown g n) (inside c) ps) (base ∙ typed.1)
    (members_grow g (grown g n) (grown_keeps g wholes n) (inside c) typed.0 ps typed_ps)
    ∙ sym typed.1

pub grown_typed : (g : Setting) (n : ℕ) (site : Site) (c : Context) (t : Tree) (u : Ty)
    → MakeWholes g.rules → IsWhole t → trees.type_of c.scope t ≡ Some u
    → type_of c.scope (grown g n site c t) ≡ Some u
grown_typed g n site c t u wholes whole e =
    grown_keeps g wholes n site c t (whole, ap is_some e) ∙ e
