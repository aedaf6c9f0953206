-- The parts of a plain tree, as lists.
use Rattle.std.proofs.Common.{◌≡◌, ℕ, zero, suc, ◌<◌, ◌≤◌, List, [], ◌∷◌, map, length, get_or}
use Rattle.std.proofs.Common.{Some, None, refl, sym, ap, ◌∙◌, arith}
use Rattle.mpy_tree.specs.declared.tree.Expr.{Expr}
use Rattle.mpy_tree.specs.View.{term_of, terms}
use Rattle.mpy_tree.specs.Trees.{tree_and}
use Rattle.mpy_tree.specs.Shapes.{shape, shapes}
use Rattle.choice_tree.specs.Heads.{trees}
use Rattle.choice_tree.specs.declared.tree.WExpr.{WExpr}
use Rattle.choice_tree.specs.declared.tree.WExprs.{WExprs}
use Rattle.choice_tree.specs.declared.tree.Other.{Other}
use Rattle.choice_tree.specs.declared.tree.Others.{Others, out-Others}
use Rattle.choice_tree.specs.WeightedViews.{weighted_of, weighteds, weighteds_of, members}
use Rattle.choice_tree.specs.WeightedViews.{member_seen, others_of}
use Rattle.choice_tree.specs.Selections.{plain, plains, other_plains, other_at}
use Rattle.choice_tree.proofs.Opening.{weighteds_of_is, others_of_is, tree_of_member}

same_parts : (m : ℕ → ℕ) (es : List Expr) (ws : List WExpr)
    → map (λ e. shape (term_of e)) es ≡ map (λ w. plain m (weighted_of w)) ws
    → shapes (terms (map term_of es)) ≡ plains m (weighteds (map weighted_of ws))
same_parts m [] [] h = refl
same_parts m [] (w ∷ ws) h = cc
same_parts m (e ∷ es) [] h = cc
same_parts m (e ∷ es) (w ∷ ws) h =
    let first : shape (term_of e) ≡ plain m (weighted_of w) = cc in
    let rest : map (λ e. shape (term_of e)) es ≡ map (λ w. plain m (weighted_of w)) ws = cc in
    λ i. tree_and (first i) (same_parts m es ws rest i)

pub exprs_plain : (m : ℕ → ℕ) (es : List Expr) (ws : WExprs)
    → map (λ e. shape (term_of e)) es ≡ map (λ w. plain m (weighted_of w)) ws.items.items
    → shapes (terms (map term_of es)) ≡ plains m (weighteds_of ws)
exprs_plain m es ws h = same_parts m es ws.items.items h ∙ ap (plains m) (sym (weighteds_of_is ws))

chosen_in : (m : ℕ → ℕ) (os : List Other) (i : ℕ) (d : Other) → i < length os
    → other_at (suc i) (other_plains m (members (map member_seen os))) ≡ Some
    (plain m (weighted_of (get_or os i d).tree))
chosen_in m [] i d h = absurd (omega arith)
chosen_in m (x ∷ os) zero d h = ap (λ t. Some (plain m t)) (tree_of_member x)
chosen_in m (x ∷ os) (suc i) d h = chosen_in m os i d (omega arith)

none_in : (m : ℕ → ℕ) (os : List Other) (i : ℕ) → length os ≤ i
    → other_at (suc i) (other_plains m (members (map member_seen os))) ≡ None
none_in m [] i h = refl
none_in m (x ∷ os) zero h = absurd (omega arith)
none_in m (x ∷ os) (suc i) h = none_in m os i (omega arith)

-- the member of a number, and no such member; xs are the members
pub chosen_plain : (m : ℕ → ℕ) (os : Others) (xs : List Other) (k i : ℕ) (d : Other)
    → xs ≡ (out-Others os).items.items → i < length xs → d ≡ get_or xs i d → k ≡ suc i
    → other_at k (other_plains m (others_of os)) ≡ Some (plain m (weighted_of d.tree))
chosen_plain m os xs k i d x h g e =
    rw (e, others_of_is os, ← x)
    (chosen_in m xs i d h ∙ ap (λ o. Some (plain m (weighted_of o.tree))) (sym g))

pub none_chosen : (m : ℕ → ℕ) (os : Others) (xs : List Other) (k i : ℕ)
    → xs ≡ (out-Others os).items.items → length xs ≤ i → k ≡ suc i
    → other_at k (other_plains m (others_of os)) ≡ None
none_chosen m os xs k i x h e = rw (e, others_of_is os, ← x) (none_in m xs i h)

-- the trees of a list of expressions
pub terms_are_trees : (es : List Expr)
    → shapes (terms (map term_of es)) ≡ trees (map (λ e. shape (term_of e)) es)
terms_are_trees [] = refl
terms_are_trees (e ∷ es) = ap (tree_and (shape (term_of e))) (terms_are_trees es)
