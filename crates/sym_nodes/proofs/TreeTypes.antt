-- The types of weighted trees, by their children.
use Rattle.std.proofs.Common.{◌≡◌, ◌<◌, ℕ, zero, suc, Bool, true, false, arith, List, length, [], ◌∷◌, map, slice_get, refl, sym, ap, ◌∙◌, Option, Some, None, IsSome, is_some, subst}
use Rattle.mpy_tree.specs.declared.typing.Ty.{Ty}
use Rattle.mpy_tree.specs.Options.{◌>>=◌}
use Rattle.mpy_tree.specs.declared.typing.Ty.TheVariants as ty
use Rattle.mpy_tree.specs.Rules.{both_are, choice_type}
use Rattle.choice_tree.specs.Heads.{HasParts}
use Rattle.choice_tree.specs.Typing.{Scope, node_type, of_three, of_two}
use Rattle.choice_tree.specs.WeightedTrees.{Weighted, Weighteds, Others, plainly, pick, no_weighted, weighted_and, no_others, other_and, children, listed, other_trees}
use Rattle.sym_nodes.specs.Environments.{AllHavePicks, HasPick, HasPicks, OthersHavePicks}
use Rattle.sym_nodes.specs.Members.{common, common_type}
use Rattle.mpy_tree.specs.Trees.{Kind}
use Rattle.mpy_tree.specs.Trees as kind
use Rattle.sym_nodes.specs.Plain.{kind_of, number_of, other_types, root_type, type_of, types_of, where_all}
use Rattle.sym_nodes.specs.Nodes.{side_kind}
use Rattle.sym_nodes.specs.Roots.{IsNodeAt}
use Rattle.sym_nodes.proofs.Choosing.{after_choice}
use Rattle.sym_nodes.proofs.TypeRules.{both_truth, choice_is, some_type}

listed_types : (σ : Scope) (ws : Weighteds) → types_of σ ws ≡ map (type_of σ) (listed ws)
listed_types σ no_weighted = refl
listed_types σ (weighted_and w ws) = ap (λ os. type_of σ w ∷ os) (listed_types σ ws)

members_types : (σ : Scope) (os : Others) → other_types σ os ≡ map (type_of σ) (other_trees os)
members_types σ no_others = refl
members_types σ (other_and rule cost w os) = ap (λ ts. type_of σ w ∷ ts) (members_types σ os)

pub all_there : (os : List (Option Ty)) (r : Option Ty) (t : Ty) → where_all os r ≡ Some t → r ≡ Some t
all_there [] r t e = e
all_there (None ∷ os) r t e = absurd cc
all_there (Some u ∷ os) r t e = all_there os r t e

one_there : (os : List (Option Ty)) (r : Option Ty) (t : Ty) (i : ℕ) (o : Option Ty) → where_all os r ≡ Some t → slice_get os i ≡ Some o → IsSome o
one_there [] r t i o e f = absurd cc
one_there (None ∷ os) r t i o e f = absurd cc
one_there (Some u ∷ os) r t zero o e f = let same : o ≡ Some u = cc in ap is_some same
one_there (Some u ∷ os) r t (suc i) o e f = one_there os r t i o e f

one_common : (u t : Ty) (os : List (Option Ty)) (i : ℕ) (o : Option Ty) → common u os ≡ Some t → slice_get os i ≡ Some o → IsSome o
one_common u t [] i o e f = absurd cc
one_common u t (None ∷ os) i o e f = absurd cc
one_common u t (Some v ∷ os) zero o e f = let same : o ≡ Some v = cc in ap is_some same
one_common u t (Some v ∷ os) (suc i) o e f = elim (choice_type u v) as (λ (c : Option Ty). (c >>= λ w. common u os) ≡ Some t → IsSome o) [ None ↦ λ e. absurd cc | Some w ↦ λ e. one_common u t os i o e f ] e

one_member : (os : List (Option Ty)) (t : Ty) (i : ℕ) (o : Option Ty) → common_type os ≡ Some t → slice_get os i ≡ Some o → IsSome o
one_member [] t i o e f = absurd cc
one_member (None ∷ os) t i o e f = absurd cc
one_member (Some u ∷ os) t zero o e f = let same : o ≡ Some u = cc in ap is_some same
one_member (Some u ∷ os) t (suc i) o e f = one_common u t os i o e f

-- the root has the type
pub root_typed : (σ : Scope) (w : Weighted) (t : Ty) → type_of σ w ≡ Some t → root_type σ w (map (type_of σ) (children w)) ≡ Some t
root_typed σ (plainly k ws) t e = ap (node_type σ k) (sym (listed_types σ ws)) ∙ all_there (types_of σ ws) (node_type σ k (types_of σ ws)) t e
root_typed σ (pick number base os) t e = ap (λ ts. common_type (type_of σ base ∷ ts)) (sym (members_types σ os)) ∙ e

child_at : (σ : Scope) (ws : List Weighted) (i : ℕ) (c : Weighted) → slice_get ws i ≡ Some c → slice_get (map (type_of σ) ws) i ≡ Some (type_of σ c)
child_at σ [] i c e = absurd cc
child_at σ (w ∷ ws) zero c e = let same : w ≡ c = cc in ap (λ x. Some (type_of σ x)) same
child_at σ (w ∷ ws) (suc i) c e = child_at σ ws i c e

child_type : (σ : Scope) (w c : Weighted) (i : ℕ) (t : Ty) → type_of σ w ≡ Some t → slice_get (children w) i ≡ Some c → IsSome (type_of σ c)
child_type σ (plainly k ws) c i t h e =
    one_there (types_of σ ws) (node_type σ k (types_of σ ws)) t i (type_of σ c) h (ap (λ (os : List (Option Ty)). slice_get os i) (listed_types σ ws) ∙ child_at σ (listed ws) i c e)
child_type σ (pick number base os) c i t h e =
    one_member (type_of σ base ∷ other_types σ os) t i (type_of σ c) h (ap (λ (ts : List (Option Ty)). slice_get (type_of σ base ∷ ts) i) (members_types σ os) ∙ child_at σ (base ∷ other_trees os) i c e)

-- each child has one
pub child_typed : (σ : Scope) (w c : Weighted) (i : ℕ) → IsSome (type_of σ w) → slice_get (children w) i ≡ Some c → IsSome (type_of σ c)
child_typed σ w c i h e =
    let typed = some_type (type_of σ w) h in child_type σ w c i typed.0 typed.1 e

picks_in : {B : Type 0} (picks : List (List B)) (ws : Weighteds) (i : ℕ) (c : Weighted) → AllHavePicks picks ws → slice_get (listed ws) i ≡ Some c → HasPicks picks c
picks_in picks no_weighted i c h e = absurd cc
picks_in picks (weighted_and w ws) zero c h e = let same : w ≡ c = cc in subst (HasPicks picks) same h.0
picks_in picks (weighted_and w ws) (suc i) c h e = picks_in picks ws i c h.1 e

picks_of_others : {B : Type 0} (picks : List (List B)) (os : Others) (i : ℕ) (c : Weighted) → OthersHavePicks picks os → slice_get (other_trees os) i ≡ Some c → HasPicks picks c
picks_of_others picks no_others i c h e = absurd cc
picks_of_others picks (other_and rule cost w os) zero c h e = let same : w ≡ c = cc in subst (HasPicks picks) same h.0
picks_of_others picks (other_and rule cost w os) (suc i) c h e = picks_of_others picks os i c h.1 e

-- and its picks, if the whole has
pub child_picks : {B : Type 0} (picks : List (List B)) (w c : Weighted) (i : ℕ) → HasPicks picks w → slice_get (children w) i ≡ Some c → HasPicks picks c
child_picks picks (plainly k ws) c i h e = picks_in picks ws i c h e
child_picks picks (pick number base os) c zero h e = let same : base ≡ c = cc in subst (HasPicks picks) same h.1
child_picks picks (pick number base os) c (suc i) h e = picks_of_others picks os i c h.2 e

pub own_pick : {B : Type 0} (picks : List (List B)) (w : Weighted) → HasPicks picks w → HasPick picks w
own_pick picks (plainly k ws) h = tt
own_pick picks (pick number base os) h = h.0

-- the root of a node and of a pick
pub node_root : (σ : Scope) (k : Kind) (w : Weighted) (os : List (Option Ty)) → Some k ≡ kind_of w → root_type σ w os ≡ node_type σ k os
node_root σ k (plainly kind ws) os e = let same : kind ≡ k = cc in ap (λ (j : Kind). node_type σ j os) same
node_root σ k (pick number base ms) os e = absurd cc

pub pick_root : (σ : Scope) (n : ℕ) (w : Weighted) (os : List (Option Ty)) → Some n ≡ number_of w → root_type σ w os ≡ common_type os
pick_root σ n (plainly k ws) os e = absurd cc
pick_root σ n (pick number base ms) os e = refl

pub pick_there : {B : Type 0} (picks : List (List B)) (n : ℕ) (w : Weighted) → HasPick picks w → Some n ≡ number_of w → n < length picks
pick_there picks n (plainly k ws) h e = absurd cc
pick_there picks n (pick number base ms) h e = let same : number ≡ n = cc in subst (λ (i : ℕ). i < length picks) same h

-- the children of a node of two parts, and of three
two_kids : (ws : List Weighted) → length ws ≡ 2 → (a b : Weighted) × (ws ≡ a ∷ b ∷ [])
two_kids [] e = absurd cc
two_kids (a ∷ []) e = absurd (omega (arith, e))
two_kids (a ∷ b ∷ []) e = (a, b, refl)
two_kids (a ∷ b ∷ d ∷ ws) e = absurd (omega (arith, e))

three_kids : (ws : List Weighted) → length ws ≡ 3 → (a b d : Weighted) × (ws ≡ a ∷ b ∷ d ∷ [])
three_kids [] e = absurd cc
three_kids (a ∷ []) e = absurd (omega (arith, e))
three_kids (a ∷ b ∷ []) e = absurd (omega (arith, e))
three_kids (a ∷ b ∷ d ∷ []) e = (a, b, d, refl)
three_kids (a ∷ b ∷ d ∷ x ∷ ws) e = absurd (omega (arith, e))

side_count : (stop : Bool) (n : ℕ) → HasParts (side_kind stop) n → n ≡ 2
side_count true n h = h
side_count false n h = h

pub side_kids : (stop : Bool) (w : Weighted) → IsNodeAt w (side_kind stop) → (a b : Weighted) × (children w ≡ a ∷ b ∷ [])
side_kids stop w h = two_kids (children w) (side_count stop (length (children w)) h.parts)

pub cond_kids : (w : Weighted) → IsNodeAt w kind.Cond → (a b d : Weighted) × (children w ≡ a ∷ b ∷ d ∷ [])
cond_kids w h = three_kids (children w) h.parts

two_there : (f : Ty → Ty → Option Ty) (o r : Option Ty) (t : Ty) → of_two f (o ∷ r ∷ []) ≡ Some t → (u v : Ty) × (o ≡ Some u) × (r ≡ Some v) × (f u v ≡ Some t)
two_there f None r t e = absurd cc
two_there f (Some u) None t e = absurd cc
two_there f (Some u) (Some v) t e = (u, v, refl, refl, e)

three_there : (f : Ty → Ty → Ty → Option Ty) (o r q : Option Ty) (t : Ty) → of_three f (o ∷ r ∷ q ∷ []) ≡ Some t
    → (u v x : Ty) × (o ≡ Some u) × (r ≡ Some v) × (q ≡ Some x) × (f u v x ≡ Some t)
three_there f None r q t e = absurd cc
three_there f (Some u) None q t e = absurd cc
three_there f (Some u) (Some v) None t e = absurd cc
three_there f (Some u) (Some v) (Some x) t e = (u, v, x, refl, refl, refl, e)

side_rule : (σ : Scope) (stop : Bool) (os : List (Option Ty)) → node_type σ (side_kind stop) os ≡ of_two (both_are ty.Bool) os
side_rule σ true os = refl
side_rule σ false os = refl

-- both sides are truth values
pub sides_typed : (σ : Scope) (stop : Bool) (w a b : Weighted) (t : Ty) → Some (side_kind stop) ≡ kind_of w → children w ≡ a ∷ b ∷ [] → type_of σ w ≡ Some t
    → (type_of σ a ≡ Some ty.Bool) × (type_of σ b ≡ Some ty.Bool) × (t ≡ ty.Bool)
sides_typed σ stop w a b t k c e =
    let os = type_of σ a ∷ type_of σ b ∷ [] in
    let whole : root_type σ w os ≡ Some t = ap (λ (ws : List Weighted). root_type σ w (map (type_of σ) ws)) (sym c) ∙ root_typed σ w t e in
    let there = two_there (both_are ty.Bool) (type_of σ a) (type_of σ b) t (sym (side_rule σ stop os) ∙ sym (node_root σ (side_kind stop) w os k) ∙ whole) in
    let truths = both_truth there.0 there.1 t there.4 in
    (there.2 ∙ ap Some truths.0, there.3 ∙ ap Some truths.1, truths.2)

-- both arms have the type
pub arms_typed : (σ : Scope) (w a b d : Weighted) (t : Ty) → Some kind.Cond ≡ kind_of w → children w ≡ a ∷ b ∷ d ∷ [] → type_of σ w ≡ Some t
    → (type_of σ a ≡ Some t) × (type_of σ d ≡ Some t)
arms_typed σ w a b d t k c e =
    let os = type_of σ a ∷ type_of σ b ∷ type_of σ d ∷ [] in
    let whole : root_type σ w os ≡ Some t = ap (λ (ws : List Weighted). root_type σ w (map (type_of σ) ws)) (sym c) ∙ root_typed σ w t e in
    let there = three_there (λ x y z. choice_type x z) (type_of σ a) (type_of σ b) (type_of σ d) t (sym (node_root σ kind.Cond w os k) ∙ whole) in
    let same = choice_is there.0 there.2 t there.6 in
    (there.3 ∙ ap Some (sym same.1), there.5 ∙ ap Some (same.0 ∙ sym same.1))

common_end : (u t : Ty) (os : List (Option Ty)) → common u os ≡ Some t → t ≡ u
common_end u t [] e = cc
common_end u t (None ∷ os) e = absurd cc
common_end u t (Some v ∷ os) e = common_end u t os (after_choice (choice_type u v) u t os e).2

common_member : (u t : Ty) (os : List (Option Ty)) (i : ℕ) (o : Option Ty) → common u os ≡ Some t → slice_get os i ≡ Some o → o ≡ Some u
common_member u t [] i o e f = absurd cc
common_member u t (None ∷ os) i o e f = absurd cc
common_member u t (Some v ∷ os) zero o e f =
    let same : o ≡ Some v = cc in
    let choice = after_choice (choice_type u v) u t os e in
    same ∙ ap Some (choice_is u v choice.0 choice.1).0
common_member u t (Some v ∷ os) (suc i) o e f = common_member u t os i o (after_choice (choice_type u v) u t os e).2 f

member_has : (t : Ty) (os : List (Option Ty)) (i : ℕ) (o : Option Ty) → common_type os ≡ Some t → slice_get os i ≡ Some o → o ≡ Some t
member_has t [] i o e f = absurd cc
member_has t (None ∷ os) i o e f = absurd cc
member_has t (Some u ∷ os) zero o e f = let same : o ≡ Some u = cc in same ∙ ap Some (sym (common_end u t os e))
member_has t (Some u ∷ os) (suc i) o e f = common_member u t os i o e f ∙ ap Some (sym (common_end u t os e))

-- each member of a pick has its type
pub member_typed : (σ : Scope) (n : ℕ) (w child : Weighted) (i : ℕ) (t : Ty) → Some n ≡ number_of w → slice_get (children w) i ≡ Some child → type_of σ w ≡ Some t
    → type_of σ child ≡ Some t
member_typed σ n w child i t is at e =
    let os = map (type_of σ) (children w) in
    member_has t os i (type_of σ child) (sym (pick_root σ n w os is) ∙ root_typed σ w t e) (child_at σ (children w) i child at)

-- a pick has a member
pub some_member : (n : ℕ) (w : Weighted) → Some n ≡ number_of w → 0 < length (children w)
some_member n (plainly k ws) e = absurd cc
some_member n (pick number base ms) e = omega arith
