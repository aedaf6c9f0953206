-- Scopes that give each local and each call one type, and trees without calls of functions of the
-- program.
use Rattle.std.specs.Prelude.{◌≡◌, ⊤, ℕ, Bool, true, List, Option, IsTrue}
use Rattle.mpy_tree.specs.declared.typing.Ty.{Ty}
use Rattle.mpy_tree.specs.Names.{is_builtin}
use Rattle.mpy_tree.specs.Rules.{callee_type}
use Rattle.mpy_tree.specs.SetTypes.{called}
use Rattle.mpy_tree.specs.Trees as kind
use Rattle.mpy_tree.specs.Trees.{Kind}
use Rattle.choice_tree.specs.Typing.{Scope}
use Rattle.choice_tree.specs.WeightedTrees.{Weighted, Weighteds, Others, plainly, pick}
use Rattle.choice_tree.specs.WeightedTrees.{no_weighted, weighted_and, no_others, other_and}
use Rattle.typed_trees.specs.TypedStatements.{local_type}

abbrev pub SameLocals : Scope → Scope → Type 0
SameLocals σ τ = (x : List ℕ) → local_type σ x ≡ local_type τ x

-- and each call of a function
abbrev pub SameCalls : Scope → Scope → Type 0
SameCalls σ τ =
    (f : List ℕ) (os : List (Option Ty))
    → callee_type σ.slots (called σ.program f) os ≡ callee_type τ.slots (called τ.program f) os

-- a call is one of a builtin
abbrev pub calls_no_function : Kind → Bool
calls_no_function (kind.Call f) = is_builtin f
calls_no_function _ = true

abbrev mutual
  pub CallsNoFunction : Weighted → Type 0
  CallsNoFunction (plainly k ws) = IsTrue (calls_no_function k) × CallNoFunction ws
  CallsNoFunction (pick number base os) = CallsNoFunction base × OthersCallNoFunction os

  pub CallNoFunction : Weighteds → Type 0
  CallNoFunction no_weighted = ⊤
  CallNoFunction (weighted_and w ws) = CallsNoFunction w × CallNoFunction ws

  pub OthersCallNoFunction : Others → Type 0
  OthersCallNoFunction no_others = ⊤
  OthersCallNoFunction (other_and rule cost w os) = CallsNoFunction w × OthersCallNoFunction os
