-- Terms have the same types in programs that are alike.
use Rattle.std.proofs.Common.{◌≡◌, ℕ, ◌+◌, suc, Bool, true, false, List, [], ◌∷◌, Option, Some}
use Rattle.std.proofs.Common.{None, if◌then◌else◌, refl, sym, ap, ◌∙◌}
use Rattle.mpy_tree.specs.declared.builtins.Builtin.{Builtin}
use Rattle.mpy_tree.specs.declared.typing.Slot.TheVariants as slot
use Rattle.mpy_tree.specs.declared.typing.Ty.{Ty}
use Rattle.mpy_tree.specs.Builtins.{builtin_of}
use Rattle.mpy_tree.specs.Rules.{Slots, are_arguments, call_type, callee_type, type_in}
use Rattle.mpy_tree.specs.SetTypes.{Callee, callee, called, called_from}
use Rattle.mpy_tree.specs.Shapes.{shape}
use Rattle.mpy_tree.specs.Syntax.{Routine, Term}
use Rattle.mpy_tree.specs.Trees as kind
use Rattle.mpy_tree.specs.Trees.{Kind, Tree, Trees, node, no_trees, tree_and}
use Rattle.mpy_tree.specs.Values.{same_bytes}
use Rattle.choice_tree.specs.Contexts.{Setting, scope_in}
use Rattle.choice_tree.specs.Typing.{Scope, node_type, type_of, types_of}
use Rattle.choice_tree.proofs.ShapeTypes.{shape_type}
use Rattle.rewriting_laws.proofs.Alike.{AlikeFrom}

module _ (g : Setting) where
  abbrev S : Slots
  S = g.slots

  first_alike : (b : Bool) (m : ℕ) (r q : Routine) (o u : Option Callee) (os : List (Option Ty))
      → q.params ≡ r.params → callee_type S u os ≡ callee_type S o os
      → callee_type S (if b then Some (callee m q) else u) os
      ≡ callee_type S (if b then Some (callee m r) else o) os
  first_alike true m r q o u os e h =
      λ j. if are_arguments S m (e j) os then S m slot.Result else None
  first_alike false m r q o u os e h = h

  -- the functions that are called have the same parameters
  callees_alike : (f : List ℕ) (os : List (Option Ty)) (n : ℕ) (rs qs : List Routine) (i : ℕ)
      → AlikeFrom g i rs qs
      → callee_type S (called_from qs f n) os ≡ callee_type S (called_from rs f n) os
  callees_alike f os n [] [] i h = refl
  callees_alike f os n [] (q ∷ qs) i h = absurd h
  callees_alike f os n (r ∷ rs) [] i h = absurd h
  callees_alike f os n (r ∷ rs) (q ∷ qs) i h =
      (λ j. callee_type S
      (if same_bytes f (h.0.name j) then Some (callee n q) else called_from qs f (n + 1)) os)
      ∙ first_alike (same_bytes f r.name) n r q (called_from rs f (n + 1))
      (called_from qs f (n + 1)) os h.0.params (callees_alike f os (n + 1) rs qs (suc i) h.1)

  call_alike : (l : Option Ty) (b : Option Builtin) (o u : Option Callee) (os : List (Option Ty))
      → callee_type S u os ≡ callee_type S o os → call_type S l b u os ≡ call_type S l b o os
  call_alike None None o u os h = h
  call_alike None (Some b) o u os h = refl
  call_alike (Some t) b o u os h = refl

  -- p is a rewriting of the program
  module _ (p : List Routine) (alike : AlikeFrom g 0 g.program p) (i : ℕ) where
    abbrev scope : Scope
    scope = record { slots = S; program = p; number = i }

    node_alike : (k : Kind) (os : List (Option Ty))
        → node_type scope k os ≡ node_type (scope_in g i) k os
    node_alike (kind.Call f) os =
        call_alike (S i (slot.Local f)) (builtin_of f) (called g.program f) (called p f) os
        (callees_alike f os 0 g.program p 0 alike)
    node_alike _ os = refl

    mutual
      tree_alike : (t : Tree) → type_of scope t ≡ type_of (scope_in g i) t
      tree_alike (node k ts) =
          ap (node_type scope k) (trees_alike ts) ∙ node_alike k (types_of (scope_in g i) ts)

      trees_alike : (ts : Trees) → types_of scope ts ≡ types_of (scope_in g i) ts
      trees_alike no_trees = refl
      trees_alike (tree_and t ts) = λ j. tree_alike t j ∷ trees_alike ts j

    pub term_alike : (e : Term) → type_in S p i e ≡ type_of (scope_in g i) (shape e)
    term_alike e = sym (shape_type scope e) ∙ tree_alike (shape e)
