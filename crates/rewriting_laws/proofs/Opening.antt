-- To which names a rewriting of an expression is open.
use Rattle.std.proofs.Common.{◌≡◌, ℕ, suc, Bool, true, false, ◌&&◌, List, [], ◌∷◌, ◌++◌}
use Rattle.std.proofs.Common.{Option, Some, None, if◌then◌else◌, refl, sym, ap, ◌∙◌, inl, inr}
use Rattle.std.proofs.Common.{◌⊎◌}
use Rattle.std.specs.Prelude.{⊤}
use Rattle.std.specs.List.{list_any}
use Rattle.mpy_tree.specs.declared.typing.Slot.TheVariants as slot
use Rattle.mpy_tree.specs.declared.typing.Ty.{Ty}
use Rattle.mpy_tree.specs.declared.typing.Ty.TheVariants as ty
use Rattle.mpy_tree.specs.Rules.{choice_type, is_type}
use Rattle.mpy_tree.specs.Rules as rules
use Rattle.mpy_tree.specs.Shapes.{shape}
use Rattle.mpy_tree.specs.Sharing.{opens}
use Rattle.mpy_tree.specs.Syntax.{Term}
use Rattle.mpy_tree.specs.Syntax as ast
use Rattle.mpy_tree.specs.Trees as kind
use Rattle.mpy_tree.specs.Trees.{Kind, Tree, Trees, no_trees, node, tree_and}
use Rattle.choice_tree.specs.Contexts.{Context, Setting, Sharing, Site, apart, below, copied}
use Rattle.choice_tree.specs.Contexts.{copies, is_copied, shared, sharing_inside}
use Rattle.choice_tree.specs.Drafts.{Draft, Drafts, as_is, filled, filled_all}
use Rattle.choice_tree.specs.Rewriting.{Edit, Finishes, FinishesAll, Rewrites, RewritesAll}
use Rattle.choice_tree.specs.Rewriting.{and_all, each, finished, kept, made, made_a_copy, none}
use Rattle.choice_tree.specs.Rewriting.{replaced, replaced_at, rewritten}
use Rattle.choice_tree.specs.Rewriting as rewriting
use Rattle.choice_tree.specs.Typing.{Scope, copy_of, of_three, same_type, type_of}
use Rattle.choice_tree.proofs.Types.{type_kept}
use Rattle.rewriting_laws.proofs.Nothing.{nil_both, none_both, none_left, none_right}

abbrev Names : Type 0
Names = List (List ℕ)

-- the names whose list a tree may be
abbrev pub tree_opens : Tree → Names
tree_opens (node (kind.Name x) ts) = x ∷ []
tree_opens (node kind.Cond (tree_and a (tree_and t (tree_and b no_trees)))) =
    tree_opens a ++ tree_opens b
tree_opens _ = []

abbrev pub if_list : Option Ty → Names → Names
if_list o xs = if is_type ty.List o then xs else []

-- if it is a list
abbrev pub open_at : Scope → Tree → Names
open_at σ t = if_list (type_of σ t) (tree_opens t)

pub shape_opens : (e : Term) → tree_opens (shape e) ≡ opens e
shape_opens (ast.Name x) = refl
shape_opens (ast.Cond t a b) = λ i. shape_opens a i ++ shape_opens b i
shape_opens _ = refl

-- no test finds a name among the first that it doesn't find among the others
abbrev pub Fewer : Names → Names → Type 0
Fewer us xs = (P : List ℕ → Bool) → list_any P xs ≡ false → list_any P us ≡ false

nothing : (o : Option Ty) → if_list o [] ≡ []
nothing None = refl
nothing (Some ty.Int) = refl
nothing (Some ty.Bool) = refl
nothing (Some ty.List) = refl
nothing (Some ty.Text) = refl

fewest : (o : Option Ty) (xs : Names) → Fewer (if_list o []) xs
fewest o xs P h = ap (list_any P) (nothing o)

-- the type of a conditional
abbrev chosen : Option Ty → Option Ty → Option Ty → Option Ty
chosen a t b = of_three (λ yes test no. choice_type yes no) (a ∷ t ∷ b ∷ [])

choice_other : (a b : Ty) (c : Bool) (zs : Names) → is_type ty.List (Some a) ≡ false
    → if_list (if c then Some a else None) zs ≡ []
choice_other a b true zs h = λ i. if h i then zs else []
choice_other a b false zs h = refl

-- It is a list only where both arms are.
list_or_not : (a t b : Option Ty) → ((zs : Names) → if_list (chosen a t b) zs ≡ [])
    ⊎ ((a ≡ Some ty.List) × (b ≡ Some ty.List) × (chosen a t b ≡ Some ty.List))
list_or_not None t b = inl (λ zs. refl)
list_or_not (Some a) None b = inl (λ zs. refl)
list_or_not (Some a) (Some t) None = inl (λ zs. refl)
list_or_not (Some ty.Int) (Some t) (Some b) =
    inl (λ zs. choice_other ty.Int b (rules.same_type ty.Int b) zs refl)
list_or_not (Some ty.Bool) (Some t) (Some b) =
    inl (λ zs. choice_other ty.Bool b (rules.same_type ty.Bool b) zs refl)
list_or_not (Some ty.Text) (Some t) (Some b) =
    inl (λ zs. choice_other ty.Text b (rules.same_type ty.Text b) zs refl)
list_or_not (Some ty.List) (Some t) (Some ty.List) = inr (refl, refl, refl)
list_or_not (Some ty.List) (Some t) (Some _) = inl (λ zs. refl)

cond_nothing : (a t b : Option Ty) (xs ys : Names) → if_list a xs ≡ [] → if_list b ys ≡ []
    → if_list (chosen a t b) (xs ++ ys) ≡ []
cond_nothing a t b xs ys h k = elim (list_or_not a t b) [
  | inl never ↦ never (xs ++ ys)
  | inr list ↦ ap (λ o. if_list o (xs ++ ys)) list.2
      ∙ nil_both xs ys (ap (λ o. if_list o xs) (sym list.0) ∙ h)
      (ap (λ o. if_list o ys) (sym list.1) ∙ k)
]

-- a list's name isn't bare where it would be copied
name_copied : (o : Option Ty) (s : Sharing) (xs : Names) → s ≡ copied
    → same_type o (Some ty.List) && is_copied s ≡ false → if_list o xs ≡ []
name_copied (Some ty.List) copied xs e h = cc
name_copied (Some ty.List) shared xs e h = cc
name_copied (Some ty.List) apart xs e h = cc
name_copied _ s xs e h = refl

-- each part that stands where a list's name is copied is open to none
abbrev AllClosed : Setting → Kind → ℕ → Context → Trees → Type 0
AllClosed g k i c no_trees = ⊤
AllClosed g k i c (tree_and u us) =
    ((below g k i c).sharing ≡ copied → open_at (below g k i c).scope u ≡ [])
    × AllClosed g k (suc i) c us

closed_node : (g : Setting) (c : Context) (k : Kind) (ts us : Trees) → c.sharing ≡ copied
    → copies c (node k ts) ≡ false → AllClosed g k 0 c us → open_at c.scope (node k us) ≡ []
closed_node g c (kind.Name x) ts us e h parts =
    name_copied (c.scope.slots c.scope.number (slot.Local x)) c.sharing (x ∷ []) e h
closed_node g c kind.Cond ts (tree_and a (tree_and t (tree_and b no_trees))) e h parts =
    cond_nothing (type_of c.scope a) (type_of c.scope t) (type_of c.scope b) (tree_opens a)
    (tree_opens b) (parts.0 e) (parts.1.1.0 e)
closed_node g c k ts us e h parts = nothing (type_of c.scope (node k us))

mutual
  closed : {g : Setting} {site : Site} {line : ℕ} {c : Context} {t u : Tree} {n : ℕ}
      {es : List Edit} → Rewrites g site line c t u n es → c.sharing ≡ copied
      → open_at c.scope u ≡ []
  closed {g} (kept {c} {k} {ts} {ts'} e all) h =
      closed_node g c k ts ts' h e (all_closed all)
  closed (rewriting.copied {c} {k} {ts} e) h =
      nothing (type_of c.scope (copy_of (node k ts)))
  closed (replaced p i fin same) h = drafted fin (ap sharing_inside h)
  closed (replaced_at p i fin same) h = drafted fin (ap sharing_inside h)

  all_closed : {g : Setting} {k : Kind} {i line : ℕ} {c : Context} {ts us : Trees} {n : ℕ}
      {es : List Edit} → RewritesAll g k i line c ts us n es → AllClosed g k i c us
  all_closed none = tt
  all_closed (each r rs) = (λ h. closed r h, all_closed rs)

  -- what a draft becomes
  drafted : {g : Setting} {line : ℕ} {c : Context} {d : Draft} {u : Tree} {n : ℕ}
      {es : List Edit} → Finishes g line c d u n es → c.sharing ≡ copied → open_at c.scope u ≡ []
  drafted {g} (made {c} {k} {ds} {ts} e all) h =
      closed_node g c k (filled_all ds) ts h e (all_drafted all)
  drafted (made_a_copy {c} {k} {ds} e) h =
      nothing (type_of c.scope (copy_of (filled (as_is k ds))))
  drafted (rewritten r) h = closed r h

  all_drafted : {g : Setting} {k : Kind} {i line : ℕ} {c : Context} {ds : Drafts} {us : Trees}
      {n : ℕ} {es : List Edit} → FinishesAll g k i line c ds us n es → AllClosed g k i c us
  all_drafted finished = tt
  all_drafted (and_all r rs) = (λ h. drafted r h, all_drafted rs)

some_none : (P : List ℕ → Bool) (o : Option Ty) (xs : Names) → list_any P xs ≡ false
    → list_any P (if_list o xs) ≡ false
some_none P None xs h = refl
some_none P (Some ty.Int) xs h = refl
some_none P (Some ty.Bool) xs h = refl
some_none P (Some ty.List) xs h = h
some_none P (Some ty.Text) xs h = refl

cond_fewer : (a t b o p q : Option Ty) (us vs xs ys : Names) → chosen a t b ≡ o
    → Fewer (if_list a us) (if_list p xs) → Fewer (if_list b vs) (if_list q ys)
    → Fewer (if_list (chosen a t b) (us ++ vs)) (if_list o (xs ++ ys))
cond_fewer a t b o p q us vs xs ys e f g P h = elim (list_or_not a t b) [
  | inl never ↦ ap (list_any P) (never (us ++ vs))
  | inr list ↦
      let whole = ap (λ r. list_any P (if_list r (xs ++ ys))) (sym list.2 ∙ e) ∙ h in
      let left = f P (some_none P p xs (none_left P xs ys whole)) in
      let right = g P (some_none P q ys (none_right P xs ys whole)) in
      ap (λ r. list_any P (if_list r (us ++ vs))) list.2
      ∙ none_both P us vs (ap (λ r. list_any P (if_list r us)) (sym list.0) ∙ left)
      (ap (λ r. list_any P (if_list r vs)) (sym list.1) ∙ right)
]

-- each part at a sharing place is open to no more names than the term's
abbrev AllFewer : Setting → Kind → ℕ → Context → Trees → Trees → Type 0
AllFewer g k i c no_trees no_trees = ⊤
AllFewer g k i c (tree_and t ts) (tree_and u us) =
    ((below g k i c).sharing ≡ shared
    → Fewer (open_at (below g k i c).scope u) (open_at (below g k i c).scope t))
    × AllFewer g k (suc i) c ts us
AllFewer g k i c _ _ = ⊥

fewer_node : (g : Setting) (c : Context) (k : Kind) (ts us : Trees) → c.sharing ≡ shared
    → type_of c.scope (node k us) ≡ type_of c.scope (node k ts) → AllFewer g k 0 c ts us
    → Fewer (open_at c.scope (node k us)) (open_at c.scope (node k ts))
fewer_node g c (kind.Name x) ts us e same parts = λ P h. h
fewer_node g c kind.Cond (tree_and l (tree_and s (tree_and r no_trees)))
    (tree_and a (tree_and t (tree_and b no_trees))) e same parts =
    cond_fewer (type_of c.scope a) (type_of c.scope t) (type_of c.scope b)
    (chosen (type_of c.scope l) (type_of c.scope s) (type_of c.scope r))
    (type_of c.scope l) (type_of c.scope r) (tree_opens a) (tree_opens b) (tree_opens l)
    (tree_opens r) same (parts.0 e) (parts.1.1.0 e)
fewer_node g c kind.Cond no_trees (tree_and a (tree_and t (tree_and b no_trees))) e same parts =
    absurd parts
fewer_node g c kind.Cond (tree_and l no_trees) (tree_and a (tree_and t (tree_and b no_trees)))
    e same parts = absurd parts.1
fewer_node g c kind.Cond (tree_and l (tree_and s no_trees))
    (tree_and a (tree_and t (tree_and b no_trees))) e same parts = absurd parts.1.1
fewer_node g c kind.Cond (tree_and l (tree_and s (tree_and r (tree_and q ts))))
    (tree_and a (tree_and t (tree_and b no_trees))) e same parts = absurd parts.1.1.1
fewer_node g c k ts us e same parts =
    fewest (type_of c.scope (node k us)) (open_at c.scope (node k ts))

mutual
  -- At a sharing place a rewriting is open to no more names.
  pub fewer : {g : Setting} {site : Site} {line : ℕ} {c : Context} {t u : Tree} {n : ℕ}
      {es : List Edit} → Rewrites g site line c t u n es → c.sharing ≡ shared
      → Fewer (open_at c.scope u) (open_at c.scope t)
  fewer {g} (kept {site} {line} {c} {k} {ts} {ts'} {n} {es} e all) h =
      let whole : Rewrites g site line c (node k ts) (node k ts') n es = kept e all in
      fewer_node g c k ts ts' h (type_kept whole) (all_fewer all)
  fewer (rewriting.copied {c} {k} {ts} e) h =
      fewest (type_of c.scope (copy_of (node k ts))) (open_at c.scope (node k ts))
  fewer (replaced p i fin same) h = λ P x. ap (list_any P) (drafted fin (ap sharing_inside h))
  fewer (replaced_at p i fin same) h = λ P x. ap (list_any P) (drafted fin (ap sharing_inside h))

  all_fewer : {g : Setting} {k : Kind} {i line : ℕ} {c : Context} {ts us : Trees} {n : ℕ}
      {es : List Edit} → RewritesAll g k i line c ts us n es → AllFewer g k i c ts us
  all_fewer none = tt
  all_fewer (each r rs) = (λ h. fewer r h, all_fewer rs)
