-- The types that are read off roots, against those by the rules of typing.
use Rattle.std.specs.Prelude.{◌≡◌, ℕ, List, map, Some}
use Rattle.mpy_tree.specs.declared.typing.Fact.{Fact}
use Rattle.mpy_tree.specs.declared.typing.Ty.{Ty}
use Rattle.mpy_tree.specs.Rules.{single}
use Rattle.mpy_tree.specs.Syntax.{Routine}
use Rattle.mpy_tree.specs.Typings.{set_of}
use Rattle.choice_tree.specs.declared.tree.WProg.{WProg}
use Rattle.choice_tree.specs.StatementViews.{weighted_func}
use Rattle.choice_tree.specs.Typing.{Scope, type_of}
use Rattle.choice_tree.specs.WeightedTrees.{Weighted, Weighteds, base_of}
use Rattle.choice_tree.specs.WeightedViews.{weighteds}
use Rattle.tree_weights.specs.RootTypes.{WeightedScope, type_at}

abbrev pub functions_of : WProg → Weighteds
functions_of w = weighteds (map weighted_func w.funcs.items.items)

-- a function of the plain program, and of the weighted one
abbrev pub plain_scope : List Fact → List Routine → ℕ → Scope
plain_scope facts p i = record { slots = single (set_of facts); program = p; number = i }

abbrev pub weighted_scope : List Fact → WProg → ℕ → ℕ → WeightedScope
weighted_scope facts w entry i =
    record { facts = facts; functions = functions_of w; entry = entry; number = i }

-- The type of an expression whose base keeps the rules is read off its root.
abbrev pub RootsHaveTypes : List Fact → List Routine → WProg → Type 0
RootsHaveTypes facts p w =
    (entry i : ℕ) (e : Weighted) (t : Ty)
    → type_of (plain_scope facts p i) (base_of e) ≡ Some t
    → type_at (weighted_scope facts w entry i) e ≡ Some t
