-- Rewriting keeps types.
use Rattle.std.proofs.Common.{◌≡◌, ℕ, Bool, true, ◌&&◌, List, [], ◌∷◌, Option, Some}
use Rattle.std.proofs.Common.{refl, ap}
use Rattle.mpy_tree.specs.declared.typing.Ty.{Ty}
use Rattle.mpy_tree.specs.declared.typing.Ty.TheVariants as ty
use Rattle.mpy_tree.specs.Rules as rules
use Rattle.mpy_tree.specs.Trees as kind
use Rattle.mpy_tree.specs.Trees.{Kind, Tree, Trees, node, no_trees, tree_and}
use Rattle.choice_tree.specs.Typing.{Scope, type_of, types_of, same_type, is_name}
use Rattle.choice_tree.specs.Typing.{is_list_name, copy_of, node_type, sliced}
use Rattle.choice_tree.specs.Contexts.{Setting, Site, Context, is_copied}
use Rattle.choice_tree.specs.Contexts.{copies, scope_below}
use Rattle.choice_tree.specs.Drafts.{Draft, Drafts, as_is, filled}
use Rattle.choice_tree.specs.Drafts.{filled_all}
use Rattle.choice_tree.specs.Rewriting.{Edit, Rewrites, RewritesAll, Finishes, FinishesAll, kept}
use Rattle.choice_tree.specs.Rewriting.{copied, replaced, replaced_at, none, each, made}
use Rattle.choice_tree.specs.Rewriting.{made_a_copy, rewritten, finished, and_all}

same_ty_is : (a b : Ty) → rules.same_type a b ≡ true → a ≡ b
same_ty_is ty.Int ty.Int h = refl
same_ty_is ty.Bool ty.Bool h = refl
same_ty_is ty.List ty.List h = refl
same_ty_is ty.Text ty.Text h = refl
same_ty_is _ _ h = cc

pub same_type_is : (a b : Option Ty) → same_type a b ≡ true → a ≡ b
same_type_is (Some a) (Some b) h = ap Some (same_ty_is a b h)
same_type_is _ _ h = cc

pub both_true : (a b : Bool) → a && b ≡ true → (a ≡ true) × (b ≡ true)
both_true true true h = (refl, refl)
both_true _ _ h = cc

sliced_list : (o : Option Ty) → same_type o (Some ty.List) ≡ true → sliced (o ∷ []) ≡ o
sliced_list (Some ty.List) h = refl
sliced_list _ h = cc

-- a list's name is copied as a term of its type
pub copy_typed : (c : Context) (t : Tree) → copies c t ≡ true
    → type_of c.scope (copy_of t) ≡ type_of c.scope t
copy_typed c t h =
    let name = both_true (is_list_name c.scope t) (is_copied c.sharing) h in
    let list = both_true (is_name t) (same_type (type_of c.scope t) (Some ty.List)) name.0 in
    sliced_list (type_of c.scope t) list.1

-- a node's type follows from those of its parts
node_typed : (g : Setting) (σ : Scope) (k : Kind) (ts us : Trees)
    → (((i : ℕ) → scope_below g k i σ ≡ σ) → types_of σ ts ≡ types_of σ us)
    → type_of σ (node k ts) ≡ type_of σ (node k us)
node_typed g σ kind.Program ts us h = refl
node_typed g σ k ts us h = ap (node_type σ k) (h (λ i. refl))

mutual
  pub type_kept : {g : Setting} {site : Site} {line : ℕ} {c : Context} {t t' : Tree} {n : ℕ}
      {es : List Edit} → Rewrites g site line c t t' n es → type_of c.scope t' ≡ type_of c.scope t
  type_kept {g} (kept {site} {line} {c} {k} {ts} {ts'} e all) =
      node_typed g c.scope k ts' ts (types_kept all)
  type_kept (copied {site} {line} {c} {k} {ts} e) = copy_typed c (node k ts) e
  type_kept (replaced p i fin h) = same_type_is _ _ h
  type_kept (replaced_at p i fin h) = same_type_is _ _ h

  types_kept : {g : Setting} {k : Kind} {i line : ℕ} {c : Context} {ts ts' : Trees} {n : ℕ}
      {es : List Edit} → RewritesAll g k i line c ts ts' n es
      → ((j : ℕ) → scope_below g k j c.scope ≡ c.scope) → types_of c.scope ts' ≡ types_of c.scope ts
  types_kept none same = refl
  types_kept {g} (each {k} {i} {line} {c} {t} {t'} r rs) same =
      let first : type_of c.scope t' ≡ type_of c.scope t = rw (same i) at (type_kept r) in
      λ j. first j ∷ types_kept rs same j

mutual
  pub type_finished : {g : Setting} {line : ℕ} {c : Context} {d : Draft} {t : Tree} {n : ℕ}
      {es : List Edit} → Finishes g line c d t n es → type_of c.scope t ≡ type_of c.scope (filled d)
  type_finished {g} (made {line} {c} {k} {ds} {ts} e all) =
      node_typed g c.scope k ts (filled_all ds) (types_finished all)
  type_finished (made_a_copy {line} {c} {k} {ds} e) = copy_typed c (filled (as_is k ds)) e
  type_finished (rewritten r) = type_kept r

  types_finished : {g : Setting} {k : Kind} {i line : ℕ} {c : Context} {ds : Drafts} {ts : Trees}
      {n : ℕ} {es : List Edit} → FinishesAll g k i line c ds ts n es
      → ((j : ℕ) → scope_below g k j c.scope ≡ c.scope)
      → types_of c.scope ts ≡ types_of c.scope (filled_all ds)
  types_finished finished same = refl
  types_finished {g} (and_all {k} {i} {line} {c} {d} {t} r rs) same =
      let first : type_of c.scope t ≡ type_of c.scope (filled d) =
      rw (same i) at (type_finished r) in
      λ j. first j ∷ types_finished rs same j
