-- What rewriting makes of a node that has no type: the node, over rewritings of its parts.
use Rattle.std.proofs.Common.{◌≡◌, ℕ, suc, Bool, true, ◌&&◌, List, Option, Some, None, refl}
use Rattle.std.specs.Prelude.{⊤}
use Rattle.mpy_tree.specs.declared.typing.Ty.{Ty}
use Rattle.mpy_tree.specs.declared.typing.Ty.TheVariants as ty
use Rattle.mpy_tree.specs.Trees.{Kind, Tree, Trees, node, no_trees, tree_and}
use Rattle.choice_tree.specs.Contexts.{Context, Setting, Site, below, is_copied, site_below}
use Rattle.choice_tree.specs.Rewriting.{Edit, Rewrites, RewritesAll, copied, each, kept, none}
use Rattle.choice_tree.specs.Rewriting.{replaced, replaced_at}
use Rattle.choice_tree.specs.Typing.{Scope, is_list_name, is_name, same_type, type_of}
use Rattle.choice_tree.proofs.Types.{both_true}

-- the rules make u of t where it stands
abbrev pub Becomes : Setting → Context → Tree → Tree → Type 0
Becomes g c t u =
    (site : Site) × (line : ℕ) × (n : ℕ) × (es : List Edit) × Rewrites g site line c t u n es

-- the same of each part of a node, from the one at place i on
abbrev pub AllBecome : Setting → Kind → ℕ → Context → Trees → Trees → Type 0
AllBecome g k i c no_trees no_trees = ⊤
AllBecome g k i c (tree_and t ts) (tree_and u us) =
    Becomes g (below g k i c) t u × AllBecome g k (suc i) c ts us
AllBecome g k i c _ _ = ⊥

abbrev pub NodeBecomes : Setting → Context → Tree → Tree → Type 0
NodeBecomes g c (node k ts) (node j us) = (k ≡ j) × AllBecome g k 0 c ts us

all_become : {g : Setting} {k : Kind} {i line : ℕ} {c : Context} {ts us : Trees} {n : ℕ}
    {es : List Edit} → RewritesAll g k i line c ts us n es → AllBecome g k i c ts us
all_become none = tt
all_become (each {k} {line} {n} {es} r rs) =
    ((site_below k, line, n, es, r), all_become rs)

not_same : (a b : Option Ty) → same_type a b ≡ true → b ≡ None → ⊥
not_same None b h e = cc
not_same (Some a) None h e = cc
not_same (Some a) (Some b) h e = cc

not_listed : (a : Option Ty) → same_type a (Some ty.List) ≡ true → a ≡ None → ⊥
not_listed None h e = cc
not_listed (Some a) h e = cc

not_copied : (σ : Scope) (t : Tree) (b : Bool) → is_list_name σ t && b ≡ true
    → type_of σ t ≡ None → ⊥
not_copied σ t b h e =
    let list = both_true (is_list_name σ t) b h in
    let typed = both_true (is_name t) (same_type (type_of σ t) (Some ty.List)) list.0 in
    not_listed (type_of σ t) typed.1 e

pub node_becomes : {g : Setting} {site : Site} {line : ℕ} {c : Context} {t u : Tree} {n : ℕ}
    {es : List Edit} → Rewrites g site line c t u n es → type_of c.scope t ≡ None
    → NodeBecomes g c t u
node_becomes (kept e all) untyped = (refl, all_become all)
node_becomes (copied {c} {k} {ts} e) untyped =
    absurd (not_copied c.scope (node k ts) (is_copied c.sharing) e untyped)
node_becomes (replaced {c} {t} {t'} p i fin h) untyped =
    absurd (not_same (type_of c.scope t') (type_of c.scope t) h untyped)
node_becomes (replaced_at {c} {t} {t'} p i fin h) untyped =
    absurd (not_same (type_of c.scope t') (type_of c.scope t) h untyped)
