-- Weighted trees that rules make are typed.
use Rattle.std.specs.Prelude.{◌≡◌, ◌<◌, ℕ, List, length, Option, Some, IsTrue, slice_get}
use Rattle.mpy_tree.specs.declared.typing.Fact.{Fact}
use Rattle.mpy_tree.specs.declared.typing.Slot.{Slot}
use Rattle.mpy_tree.specs.declared.typing.Ty.{Ty}
use Rattle.mpy_tree.specs.Entries.{Entry}
use Rattle.mpy_tree.specs.Rules.{single}
use Rattle.mpy_tree.specs.Syntax.{Routine}
use Rattle.mpy_tree.specs.Trees.{Kind, Tree}
use Rattle.mpy_tree.specs.Typings.{AreTypes, set_of}
use Rattle.choice_tree.specs.declared.tree.WFunc.{WFunc}
use Rattle.choice_tree.specs.declared.tree.WProg.{WProg}
use Rattle.choice_tree.specs.Contexts.{Context, Setting, Site, scope_in, setting_with}
use Rattle.choice_tree.specs.Growing.{grown, weighted_program}
use Rattle.choice_tree.specs.StatementViews.{weighted_func, weighted_prog}
use Rattle.choice_tree.specs.Templates.{Correction}
use Rattle.choice_tree.specs.Typing.{Scope, node_type, type_of as type_of_tree}
use Rattle.choice_tree.specs.WeightedTrees.{Weighted}
use Rattle.sym_nodes.specs.Plain.{type_of}
use Rattle.typed_trees.specs.Locals.{CallsNoFunction, SameCalls, SameLocals, calls_no_function}
use Rattle.typed_trees.specs.TypedStatements.{IsTyped, IsTypedProgram}
use Rattle.typed_trees.specs.Wholes.{IsWhole, MakeWholes}

-- the weighted tree of an expression has the expression's type, wherever it stands
abbrev pub GrownHaveTypes : Type 0
GrownHaveTypes =
    (g : Setting) (steps : ℕ) (site : Site) (c : Context) (t : Tree) (u : Ty)
    → MakeWholes g.rules → IsWhole t → type_of_tree c.scope t ≡ Some u
    → type_of c.scope (grown g steps site c t) ≡ Some u

-- where no function is called, types follow from those of the locals
abbrev pub TypesFollowFromLocals : Type 0
TypesFollowFromLocals =
    (σ τ : Scope) (w : Weighted) → SameLocals σ τ → CallsNoFunction w → type_of σ w ≡ type_of τ w

abbrev pub NodeTypesFollowFromLocals : Type 0
NodeTypesFollowFromLocals =
    (σ τ : Scope) (k : Kind) (os : List (Option Ty)) → SameLocals σ τ
    → IsTrue (calls_no_function k) → node_type σ k os ≡ node_type τ k os

-- and else from those of the locals and of the calls
abbrev pub TypesFollow : Type 0
TypesFollow =
    (σ τ : Scope) (w : Weighted) → SameLocals σ τ → SameCalls σ τ → type_of σ w ≡ type_of τ w

-- calls of the functions of one program have one type where the slots of these have
abbrev pub CallsFollowFromSlots : Type 0
CallsFollowFromSlots =
    (σ τ : Scope) → σ.program ≡ τ.program
    → ((i : ℕ) (x : Slot) → i < length σ.program → σ.slots i x ≡ τ.slots i x) → SameCalls σ τ

-- rules for a program with the types of its names
abbrev pub setting_by : List Correction → List Routine → List Fact → Setting
setting_by rules p T = setting_with rules p (single (set_of T))

-- the weighted tree of a program that facts type is typed
abbrev pub WeightedProgramsAreTyped : Type 0
WeightedProgramsAreTyped =
    (rules : List Correction) (T : List Fact) (p : List Routine) (entry : Entry)
    → MakeWholes rules → AreTypes T p entry
    → IsTypedProgram (setting_by rules p T) (weighted_program (setting_by rules p T) p)

-- and so is each function of the code's tree, by its number
abbrev pub WeightedFunctionsAreTyped : Type 0
WeightedFunctionsAreTyped =
    (rules : List Correction) (T : List Fact) (p : List Routine) (entry : Entry) (w : WProg) (i : ℕ)
    (f : WFunc)
    → MakeWholes rules → AreTypes T p entry
    → weighted_prog w ≡ weighted_program (setting_by rules p T) p
    → slice_get w.funcs.items.items i ≡ Some f
    → IsTyped (scope_in (setting_by rules p T) i) (weighted_func f)
