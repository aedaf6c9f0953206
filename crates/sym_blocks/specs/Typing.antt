-- What the types of a statement's parts are, by the rule of its kind.
use Rattle.std.specs.Prelude.{⊤, ℕ, List, Option, Some, None, IsTrue}
use Rattle.mpy_tree.specs.declared.operators.ArithOp.{ArithOp}
use Rattle.mpy_tree.specs.Rules.{augment_obeys}
use Rattle.choice_tree.specs.declared.tree.WExpr.{WExpr}
use Rattle.choice_tree.specs.Typing.{Scope, same_type}
use Rattle.choice_tree.specs.WeightedTrees.{Weighted}
use Rattle.choice_tree.specs.WeightedViews.{weighted_of}
use Rattle.sym_nodes.specs.Plain.{type_of}
use Rattle.typed_trees.specs.TypedStatements.{appends, goes_over, local_type, puts, result_type}

-- x = e
abbrev pub Assigns : Scope → List ℕ → Weighted → Type 0
Assigns σ x e = IsTrue (same_type (type_of σ e) (local_type σ x))

-- x op= e
abbrev pub Augments : Scope → List ℕ → ArithOp → Weighted → Type 0
Augments σ x op e = IsTrue (augment_obeys op (local_type σ x) (type_of σ e))

-- x[i] = e, and x[i] op= e
abbrev pub Puts : Scope → List ℕ → Weighted → Weighted → Type 0
Puts σ x i e = IsTrue (puts (local_type σ x) (type_of σ i) (type_of σ e))

-- x.append(e)
abbrev pub Appends : Scope → List ℕ → Weighted → Type 0
Appends σ x e = IsTrue (appends (local_type σ x) (type_of σ e))

-- return e
abbrev pub Returns : Scope → Weighted → Type 0
Returns σ e = IsTrue (same_type (type_of σ e) (result_type σ))

-- return e, or return alone
abbrev pub MayReturn : Scope → Option WExpr → Type 0
MayReturn σ None = ⊤
MayReturn σ (Some e) = Returns σ (weighted_of e)

-- for x in e
abbrev pub GoesOver : Scope → List ℕ → Weighted → Type 0
GoesOver σ x e = IsTrue (goes_over (local_type σ x) (type_of σ e))
