-- Whatever members are chosen, a weighted expression makes a term: by induction over the code's
-- trees.
use Rattle.std.proofs.Common.{◌≡◌, ℕ, zero, suc, true, false, List, [], ◌∷◌, map, Some, None}
use Rattle.std.proofs.Common.{refl, sym, ap, ◌∙◌, subst}
use Rattle.mpy_tree.specs.Syntax.{Term, Terms, no_terms, term_and, no_term, a_term}
use Rattle.mpy_tree.specs.Syntax as ast
use Rattle.mpy_tree.specs.Shapes.{shape, shapes}
use Rattle.mpy_tree.specs.Trees as kind
use Rattle.mpy_tree.specs.Trees.{node, tree_and, one, two, three}
use Rattle.choice_tree.specs.declared.tree.WExpr.{WExpr, map-WExpr}
use Rattle.choice_tree.specs.declared.tree.WExprs.{WExprs, map-WExprs}
use Rattle.choice_tree.specs.declared.tree.Other.{Other, map-Other}
use Rattle.choice_tree.specs.declared.tree.Others.{Others, map-Others}
use Rattle.choice_tree.specs.declared.tree.WExpr.TheOpen as F
use Rattle.choice_tree.specs.declared.tree.WExpr.TheFolds.{fold-roll-WExpr, fold-roll-WExprs}
use Rattle.choice_tree.specs.declared.tree.WExpr.TheFolds.{fold-roll-Other, fold-roll-Others}
use Rattle.choice_tree.specs.declared.tree.WExpr.TheFolds.{ind-WExpr}
use Rattle.choice_tree.specs.Selections.{chosen, plain, plains, other_plains}
use Rattle.choice_tree.specs.WeightedTrees as W
use Rattle.choice_tree.specs.WeightedTrees.{Weighted, Weighteds}
use Rattle.choice_tree.specs.WeightedViews.{Member, member_seen, members, other_step, others_of}
use Rattle.choice_tree.specs.WeightedViews.{others_step, weighted_of, weighteds, weighteds_of}
use Rattle.choice_tree.specs.WeightedViews.{wexpr_step, wexprs_step}

-- what the chosen members make is the tree of a term, and of terms
abbrev pub MakesTerm : (ℕ → ℕ) → Weighted → Type 0
MakesTerm m w = (t : Term) × (shape t ≡ plain m w)

abbrev MakesTerms : (ℕ → ℕ) → Weighteds → Type 0
MakesTerms m ws = (ts : Terms) × (shapes ts ≡ plains m ws)

abbrev MakesMembers : (ℕ → ℕ) → W.Others → Type 0
MakesMembers m os = (ts : List Term) × (map shape ts ≡ other_plains m os)

-- parts, each with what it makes
abbrev Expr : (ℕ → ℕ) → Type 0
Expr m = (e : WExpr) × MakesTerm m (weighted_of e)

abbrev Exprs : (ℕ → ℕ) → Type 0
Exprs m = (es : WExprs) × MakesTerms m (weighteds_of es)

abbrev OneOther : (ℕ → ℕ) → Type 0
OneOther m = (o : Other) × MakesTerm m (member_seen o).tree

abbrev AllOthers : (ℕ → ℕ) → Type 0
AllOthers m = (os : Others) × MakesMembers m (others_of os)

-- a pick makes what its chosen member makes
chosen_shape : (i : ℕ) (t : Term) (ts : List Term)
    → shape (chosen i t ts) ≡ chosen i (shape t) (map shape ts)
chosen_shape zero t ts = refl
chosen_shape (suc i) t [] = refl
chosen_shape (suc zero) t (u ∷ ts) = refl
chosen_shape (suc (suc i)) t (u ∷ ts) = chosen_shape (suc i) t ts

pick_made : (m : ℕ → ℕ) (number : ℕ) (base : Weighted) (os : W.Others)
    → MakesTerm m base → MakesMembers m os → MakesTerm m (W.pick number base os)
pick_made m number base os b others = (
  chosen (m number) b.0 others.0,
  chosen_shape (m number) b.0 others.0 ∙ λ i. chosen (m number) (b.1 i) (others.1 i),
)

-- one layer, whose parts make terms
abbrev made_of : (m : ℕ → ℕ) → F.WExpr-F (Expr m) (OneOther m) (AllOthers m) (Exprs m) → Weighted
made_of m y =
    wexpr_step (map-WExpr WExpr Other Others WExprs Weighted Member W.Others Weighteds
    weighted_of member_seen others_of weighteds_of
    (map-WExpr (Expr m) (OneOther m) (AllOthers m) (Exprs m) WExpr Other Others WExprs
    (λ e. e.0) (λ o. o.0) (λ os. os.0) (λ es. es.0) y))

layer_made : (m : ℕ → ℕ) (y : F.WExpr-F (Expr m) (OneOther m) (AllOthers m) (Exprs m))
    → MakesTerm m (made_of m y)
layer_made m (F.Int n) = (ast.Int n, refl)
layer_made m (F.Bool b) = (ast.Bool b, refl)
layer_made m (F.Text t) = (ast.Text t, refl)
layer_made m (F.Name x) = (ast.Name x, refl)
layer_made m (F.List es) = (ast.List es.1.0, ap (node kind.List) es.1.1)
layer_made m (F.Neg e) = (ast.Neg e.value.1.0, λ i. node kind.Neg (one (e.value.1.1 i)))
layer_made m (F.Not e) = (ast.Not e.value.1.0, λ i. node kind.Not (one (e.value.1.1 i)))
layer_made m (F.Arith op a b) = (
  ast.Arith op a.value.1.0 b.value.1.0,
  λ i. node (kind.Arith op) (two (a.value.1.1 i) (b.value.1.1 i)),
)
layer_made m (F.Cmp op a b) = (
  ast.Cmp op a.value.1.0 b.value.1.0,
  λ i. node (kind.Cmp op) (two (a.value.1.1 i) (b.value.1.1 i)),
)
layer_made m (F.And a b) =
    (ast.And a.value.1.0 b.value.1.0, λ i. node kind.And (two (a.value.1.1 i) (b.value.1.1 i)))
layer_made m (F.Or a b) =
    (ast.Or a.value.1.0 b.value.1.0, λ i. node kind.Or (two (a.value.1.1 i) (b.value.1.1 i)))
layer_made m (F.Cond t y n) = (
  ast.Cond t.value.1.0 y.value.1.0 n.value.1.0,
  λ i. node kind.Cond (three (y.value.1.1 i) (t.value.1.1 i) (n.value.1.1 i)),
)
layer_made m (F.Index a b) = (
  ast.Index a.value.1.0 b.value.1.0,
  λ i. node kind.Index (two (a.value.1.1 i) (b.value.1.1 i)),
)
layer_made m (F.Slice a None None) = (
  ast.Slice a.value.1.0 no_term no_term,
  λ i. node (kind.Slice false false) (one (a.value.1.1 i)),
)
layer_made m (F.Slice a (Some f) None) = (
  ast.Slice a.value.1.0 (a_term f.value.1.0) no_term,
  λ i. node (kind.Slice true false) (two (a.value.1.1 i) (f.value.1.1 i)),
)
layer_made m (F.Slice a None (Some t)) = (
  ast.Slice a.value.1.0 no_term (a_term t.value.1.0),
  λ i. node (kind.Slice false true) (two (a.value.1.1 i) (t.value.1.1 i)),
)
layer_made m (F.Slice a (Some f) (Some t)) = (
  ast.Slice a.value.1.0 (a_term f.value.1.0) (a_term t.value.1.0),
  λ i. node (kind.Slice true true) (three (a.value.1.1 i) (f.value.1.1 i) (t.value.1.1 i)),
)
layer_made m (F.Call x es) = (ast.Call x es.1.0, ap (node (kind.Call x)) es.1.1)
layer_made m (F.Pick number base others) =
    pick_made m number (weighted_of base.value.0) (others_of others.0) base.value.1 others.1

each_made : (m : ℕ → ℕ) (es : List (Expr m))
    → MakesTerms m (weighteds (map weighted_of (map (λ e. e.0) es)))
each_made m [] = (no_terms, refl)
each_made m (e ∷ es) =
    let rest = each_made m es in
    (term_and e.1.0 rest.0, λ i. tree_and (e.1.1 i) (rest.1 i))

each_member : (m : ℕ → ℕ) (os : List (OneOther m))
    → MakesMembers m (members (map member_seen (map (λ o. o.0) os)))
each_member m [] = ([], refl)
each_member m (o ∷ os) =
    let rest = each_member m os in
    (o.1.0 ∷ rest.0, λ i. o.1.1 i ∷ rest.1 i)

pub term_made : (m : ℕ → ℕ) (e : WExpr) → MakesTerm m (weighted_of e)
term_made m =
    ind-WExpr (λ e. MakesTerm m (weighted_of e)) (λ o. MakesTerm m (member_seen o).tree)
    (λ os. MakesMembers m (others_of os)) (λ es. MakesTerms m (weighteds_of es))
    (λ x y is. subst (MakesTerm m)
    (sym (fold-roll-WExpr Weighted Member W.Others Weighteds wexpr_step other_step others_step
    wexprs_step x))
    (subst (λ z. MakesTerm m (wexpr_step
    (map-WExpr WExpr Other Others WExprs Weighted Member W.Others Weighteds
    weighted_of member_seen others_of weighteds_of z))) is (layer_made m y)))
    (λ x y is. subst (λ o. MakesTerm m o.tree)
    (sym (fold-roll-Other Weighted Member W.Others Weighteds wexpr_step other_step others_step
    wexprs_step x))
    (subst (λ z. MakesTerm m (other_step
    (map-Other WExpr Other Others WExprs Weighted Member W.Others Weighteds
    weighted_of member_seen others_of weighteds_of z)).tree) is y.tree.1))
    (λ x y is. subst (MakesMembers m)
    (sym (fold-roll-Others Weighted Member W.Others Weighteds wexpr_step other_step others_step
    wexprs_step x))
    (subst (λ z. MakesMembers m (others_step
    (map-Others WExpr Other Others WExprs Weighted Member W.Others Weighteds
    weighted_of member_seen others_of weighteds_of z))) is (each_member m y.items.items)))
    (λ x y is. subst (MakesTerms m)
    (sym (fold-roll-WExprs Weighted Member W.Others Weighteds wexpr_step other_step others_step
    wexprs_step x))
    (subst (λ z. MakesTerms m (wexprs_step
    (map-WExprs WExpr Other Others WExprs Weighted Member W.Others Weighteds
    weighted_of member_seen others_of weighteds_of z))) is (each_made m y.items.items)))
