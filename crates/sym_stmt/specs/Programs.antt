-- Weighted programs by their functions' headers, and what it is that facts type them.
use Rattle.std.specs.Prelude.{◌≡◌, ◌==◌, Bool, false, not, ℕ, List, All, map, Option, Some, None}
use Rattle.std.specs.Prelude.{IsSome, IsTrue}
use Rattle.std.specs.Prelude.{option_map, position, slice_get}
use Rattle.mpy_tree.specs.declared.limits.Limits.{Limits}
use Rattle.mpy_tree.specs.declared.typing.Fact.{Fact}
use Rattle.mpy_tree.specs.declared.typing.Slot.TheVariants as slot
use Rattle.mpy_tree.specs.declared.typing.Ty.{Ty}
use Rattle.mpy_tree.specs.Entries.{Entry}
use Rattle.mpy_tree.specs.Names.{has_twice}
use Rattle.mpy_tree.specs.Rules.{Slots, are_arguments, single}
use Rattle.mpy_tree.specs.SetTypes.{Callee, called}
use Rattle.mpy_tree.specs.Syntax.{Routine, end}
use Rattle.mpy_tree.specs.Typings.{set_of}
use Rattle.mpy_tree.specs.Values.{same_bytes}
use Rattle.choice_tree.specs.declared.tree.WFunc.{WFunc}
use Rattle.choice_tree.specs.declared.tree.WProg.{WProg}
use Rattle.choice_tree.specs.StatementViews.{weighted_body}
use Rattle.choice_tree.specs.Typing.{Scope}
use Rattle.sym_values.specs.Forms.{Form, form_for}
use Rattle.sym_expr.specs.Signatures.{Signatures, result_type}
use Rattle.typed_trees.specs.TypedStatements.{IsTyped}

abbrev pub functions_of : WProg → List WFunc
functions_of w = w.funcs.items.items

-- a function without its body, of which its callers know nothing
abbrev pub header : WFunc → Routine
header f = record { line = f.line; name = f.name; params = f.params; body = end }

-- the functions of a weighted program, whose slots have the types that facts give them
abbrev pub signatures_of : WProg → List Fact → Signatures
signatures_of w T =
    record { program = map header (functions_of w); slots = single (set_of T) }

-- a function of the program, by its number
abbrev pub scope_in : WProg → List Fact → ℕ → Scope
scope_in w T i = record {
  slots = single (set_of T);
  program = map header (functions_of w);
  number = i;
}

-- the number of the first function of a name
abbrev pub number_of : List WFunc → List ℕ → Option ℕ
number_of fs f = position (λ g. same_bytes f g.name) fs

-- whether a function takes arguments of these types
abbrev pub callee_takes : Slots → Option Callee → List (Option Ty) → Bool
callee_takes S None os = false
callee_takes S (Some g) os = are_arguments S g.number g.routine.params os

abbrev pub takes : Signatures → List ℕ → List (Option Ty) → Bool
takes c f os = callee_takes c.slots (called c.program f) os

-- The parameters of a function differ from one another, each of them has a type, and the body is
-- typed. The result of one that is called has a type, too, as its calls have it.
pub record IsTypedFunction (w : WProg) (T : List Fact) (i : ℕ) (f : WFunc) : Type 0 where
  pub differ : has_twice f.params ≡ false
  pub params : All (λ x. IsSome (single (set_of T) i (slot.Local x))) f.params
  pub body : IsTyped (scope_in w T i) (weighted_body f.body)

-- The facts type the functions of a weighted program: the slot of each fact has the fact's type and
-- no other, and each function is typed.
pub record TypesFunctions (T : List Fact) (w : WProg) : Type 0 where
  pub alone : All (λ (f : Fact). single (set_of T) f.func f.slot ≡ Some f.ty) T
  pub typed : (i : ℕ) (f : WFunc) → slice_get (functions_of w) i ≡ Some f
      → IsTypedFunction w T i f

-- and its entry takes arguments of these types, and its result has a type, but where it needs none
pub record TypesProgram (T : List Fact) (w : WProg) (e : Entry) : Type 0 where
  pub functions : TypesFunctions T w
  pub takes_them : IsTrue (takes (signatures_of w T) e.name (map (λ t. Some t) e.types))
  pub gives : e.free_result ≡ false → IsSome (result_type (signatures_of w T) e.name)

-- an entry on arguments of these types, which needs no value where printed values are kept
abbrev pub entry_within : Limits → List ℕ → List Ty → Entry
entry_within l f ts = record { name = f; types = ts; free_result = not (l.prints == 0) }

-- the form of what the entry of a program gives, if its result has a type
abbrev pub end_form : Limits → WProg → List Fact → List ℕ → Option Form
end_form l w T f = option_map (form_for l) (result_type (signatures_of w T) f)
