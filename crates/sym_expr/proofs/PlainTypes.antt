-- The plain expressions of a weighted tree that has a type have it too.
use Rattle.std.proofs.Common.{◌≡◌, ℕ, zero, suc, List, [], ◌∷◌, slice_get, refl, sym, ap, ◌∙◌, Option, Some, None}
use Rattle.std.specs.Option.{unwrap_or}
use Rattle.mpy_tree.specs.declared.typing.Ty.{Ty}
use Rattle.mpy_tree.specs.Rules.{choice_type}
use Rattle.mpy_tree.specs.Trees.{Tree}
use Rattle.choice_tree.specs.Selections.{chosen, other_plains, plain, plains}
use Rattle.choice_tree.specs.Typing.{Scope, node_type}
use Rattle.choice_tree.specs.Typing as trees
use Rattle.choice_tree.specs.WeightedTrees.{Weighted, Weighteds, Others, plainly, pick, no_weighted, weighted_and, no_others, other_and}
use Rattle.sym_nodes.specs.Members.{common, common_type}
use Rattle.sym_nodes.specs.Plain.{other_types, type_of, types_of, where_all}
use Rattle.sym_nodes.proofs.Choosing.{after_choice}
use Rattle.sym_nodes.proofs.TreeTypes.{all_there}
use Rattle.sym_nodes.proofs.TypeRules.{choice_is}

first_there : (o : Option Ty) (os : List (Option Ty)) (r : Option Ty) (t : Ty) → where_all (o ∷ os) r ≡ Some t → (u : Ty) × (o ≡ Some u) × (where_all os r ≡ Some t)
first_there None os r t e = absurd cc
first_there (Some u) os r t e = (u, refl, e)

first_member : (o : Option Ty) (os : List (Option Ty)) (t : Ty) → common_type (o ∷ os) ≡ Some t → (u : Ty) × (o ≡ Some u) × (common u os ≡ Some t)
first_member None os t e = absurd cc
first_member (Some u) os t e = (u, refl, e)

next_member : (u : Ty) (o : Option Ty) (os : List (Option Ty)) (t : Ty) → common u (o ∷ os) ≡ Some t → (o ≡ Some u) × (common u os ≡ Some t)
next_member u None os t e = absurd cc
next_member u (Some v) os t e =
    let c = after_choice (choice_type u v) u t os e in (ap Some (choice_is u v c.0 c.1).0, c.2)

same_type : (u : Ty) (os : List (Option Ty)) (t : Ty) → common u os ≡ Some t → u ≡ t
same_type u [] t e = cc
same_type u (o ∷ os) t e = same_type u os t (next_member u o os t e).1

-- the chosen one has the type that all have
one_of : (σ : Scope) (t : Ty) (base : Tree) (xs : List Tree) (i : ℕ) → trees.type_of σ base ≡ Some t → ((k : ℕ) (x : Tree) → slice_get xs k ≡ Some x → trees.type_of σ x ≡ Some t) → trees.type_of σ (chosen i base xs) ≡ Some t
one_of σ t base xs zero h k = h
one_of σ t base xs (suc i) h k = there (slice_get xs i) refl
  where
    there : (o : Option Tree) → slice_get xs i ≡ o → trees.type_of σ (unwrap_or o base) ≡ Some t
    there None e = h
    there (Some x) e = k i x e

mutual
  pub plain_type : (m : ℕ → ℕ) (σ : Scope) (w : Weighted) (t : Ty) → type_of σ w ≡ Some t → trees.type_of σ (plain m w) ≡ Some t
  plain_type m σ (plainly k ws) t e =
      ap (node_type σ k) (plain_types m σ ws (node_type σ k (types_of σ ws)) t e) ∙ all_there (types_of σ ws) (node_type σ k (types_of σ ws)) t e
  plain_type m σ (pick number base os) t e =
      let first = first_member (type_of σ base) (other_types σ os) t e in
      let same = same_type first.0 (other_types σ os) t first.2 in
      one_of σ t (plain m base) (other_plains m os) (m number) (plain_type m σ base t (first.1 ∙ ap Some same)) (λ k x at. member_plain m σ os first.0 t k x first.2 at)

  plain_types : (m : ℕ → ℕ) (σ : Scope) (ws : Weighteds) (r : Option Ty) (t : Ty) → where_all (types_of σ ws) r ≡ Some t → trees.types_of σ (plains m ws) ≡ types_of σ ws
  plain_types m σ no_weighted r t e = refl
  plain_types m σ (weighted_and w ws) r t e =
      let first = first_there (type_of σ w) (types_of σ ws) r t e in
      let head : trees.type_of σ (plain m w) ≡ type_of σ w = plain_type m σ w first.0 first.1 ∙ sym first.1 in
      let tail : trees.types_of σ (plains m ws) ≡ types_of σ ws = plain_types m σ ws r t first.2 in
      λ i. head i ∷ tail i

  member_plain : (m : ℕ → ℕ) (σ : Scope) (os : Others) (u t : Ty) (k : ℕ) (x : Tree) → common u (other_types σ os) ≡ Some t → slice_get (other_plains m os) k ≡ Some x → trees.type_of σ x ≡ Some t
  member_plain m σ no_others u t k x e at = absurd cc
  member_plain m σ (other_and rule cost w os) u t zero x e at =
      let next = next_member u (type_of σ w) (other_types σ os) t e in
      let same : x ≡ plain m w = cc in
      ap (trees.type_of σ) same ∙ plain_type m σ w t (next.0 ∙ ap Some (same_type u (other_types σ os) t next.1))
  member_plain m σ (other_and rule cost w os) u t (suc k) x e at =
      member_plain m σ os u t k x (next_member u (type_of σ w) (other_types σ os) t e).1 at
