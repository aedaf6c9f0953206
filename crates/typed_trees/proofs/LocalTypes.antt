-- The type of a tree follows from those of the locals, and of the calls where it has some.
use Rattle.std.proofs.Common.{◌≡◌, ◌<◌, ℕ, List, ◌∷◌, length, refl, ap, ◌∙◌, subst, Option}
use Rattle.std.proofs.Common.{Some, None, IsTrue, is_some}
use Rattle.mpy_tree.specs.declared.builtins.Builtin.{Builtin}
use Rattle.mpy_tree.specs.declared.typing.Slot.{Slot}
use Rattle.mpy_tree.specs.declared.typing.Ty.{Ty}
use Rattle.mpy_tree.specs.Builtins.{builtin_of}
use Rattle.mpy_tree.specs.Rules.{Slots, called_type, callee_type}
use Rattle.mpy_tree.specs.SetTypes.{Callee, called}
use Rattle.mpy_tree.specs.Syntax.{Routine}
use Rattle.mpy_tree.specs.Trees.{Kind}
use Rattle.choice_tree.specs.Typing.{Scope, node_type}
use Rattle.choice_tree.specs.WeightedTrees.{Weighted, Weighteds, Others, plainly, pick}
use Rattle.choice_tree.specs.WeightedTrees.{no_weighted, weighted_and, no_others, other_and}
use Rattle.sym_nodes.specs.Members.{common_type}
use Rattle.sym_nodes.specs.Plain.{other_types, type_of, types_of, where_all}
use Rattle.sym_nodes.proofs.Scopes.{callees_alike, node_alike, tree_alike}
use Rattle.typed_trees.specs.Locals.{CallNoFunction, CallsNoFunction, OthersCallNoFunction}
use Rattle.typed_trees.specs.Locals.{SameCalls, SameLocals, calls_no_function}

builtin_call : (S R : Slots) (b : Option Builtin) (g d : Option Callee) (os : List (Option Ty))
    → IsTrue (is_some b) → called_type S b g os ≡ called_type R b d os
builtin_call S R (Some b) g d os h = refl
builtin_call S R None g d os h = cc

pub node_follows : (σ τ : Scope) (k : Kind) (os : List (Option Ty)) → SameLocals σ τ
    → IsTrue (calls_no_function k) → node_type σ k os ≡ node_type τ k os
node_follows σ τ k os h own =
    node_alike σ τ k os h (λ f is. builtin_call σ.slots τ.slots (builtin_of f)
    (called σ.program f) (called τ.program f) os
    (subst (λ (j : Kind). IsTrue (calls_no_function j)) is own))

function_call : (S R : Slots) (b : Option Builtin) (g d : Option Callee) (os : List (Option Ty))
    → callee_type S g os ≡ callee_type R d os → called_type S b g os ≡ called_type R b d os
function_call S R (Some b) g d os e = refl
function_call S R None g d os e = e

pub all_follow : (σ τ : Scope) (w : Weighted) → SameLocals σ τ → SameCalls σ τ
    → type_of σ w ≡ type_of τ w
all_follow σ τ w h c =
    tree_alike σ τ (λ k os. node_alike σ τ k os h (λ f is. function_call σ.slots τ.slots
    (builtin_of f) (called σ.program f) (called τ.program f) os (c f os))) w

pub calls_follow : (σ τ : Scope) → σ.program ≡ τ.program
    → ((i : ℕ) (x : Slot) → i < length σ.program → σ.slots i x ≡ τ.slots i x) → SameCalls σ τ
calls_follow σ τ e h f os =
    callees_alike σ.slots τ.slots σ.program f os h
    ∙ ap (λ (p : List Routine). callee_type τ.slots (called p f) os) e

module _ (σ τ : Scope) (h : SameLocals σ τ) where
  mutual
    pub type_follows : (w : Weighted) → CallsNoFunction w → type_of σ w ≡ type_of τ w
    type_follows (plainly k ws) own =
        (λ i. where_all (types_follow ws own.1 i) (node_type σ k (types_follow ws own.1 i)))
        ∙ ap (where_all (types_of τ ws)) (node_follows σ τ k (types_of τ ws) h own.0)
    type_follows (pick number base os) own =
        λ i. common_type (type_follows base own.0 i ∷ other_types_follow os own.1 i)

    types_follow : (ws : Weighteds) → CallNoFunction ws → types_of σ ws ≡ types_of τ ws
    types_follow no_weighted own = refl
    types_follow (weighted_and w ws) own =
        λ i. type_follows w own.0 i ∷ types_follow ws own.1 i

    other_types_follow : (os : Others) → OthersCallNoFunction os
        → other_types σ os ≡ other_types τ os
    other_types_follow no_others own = refl
    other_types_follow (other_and rule cost w os) own =
        λ i. type_follows w own.0 i ∷ other_types_follow os own.1 i
