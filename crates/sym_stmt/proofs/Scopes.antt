-- A body is typed beside the functions of its program as it is in the function.
use Rattle.std.proofs.Common.{◌≡◌, ◌<◌, ℕ, Bool, false, List, length, map, refl, sym, ap, ◌∙◌}
use Rattle.std.proofs.Common.{arith}
use Rattle.std.specs.Prelude.{◌==◌, if◌then◌else◌}
use Rattle.std.specs.Cmp.{unsigned_Decides}
use Rattle.std.proofs.lemmas.Bool.{false_from_ne_true}
use Rattle.mpy_tree.specs.declared.limits.Limits.{Limits}
use Rattle.mpy_tree.specs.declared.typing.Fact.{Fact}
use Rattle.mpy_tree.specs.declared.typing.Slot.{Slot}
use Rattle.mpy_tree.specs.Rules.{single}
use Rattle.mpy_tree.specs.Typings.{set_of}
use Rattle.choice_tree.specs.declared.tree.WFunc.{WFunc}
use Rattle.choice_tree.specs.declared.tree.WProg.{WProg}
use Rattle.choice_tree.specs.StatementViews.{weighted_body}
use Rattle.choice_tree.specs.Typing.{Scope}
use Rattle.sym_paths.specs.declared.slots.Slots.{Slots}
use Rattle.sym_blocks.specs.Bodies.{body_scope, body_slot}
use Rattle.sym_blocks.proofs.Settings.{local_type_is, result_type_is}
use Rattle.typed_trees.specs.Locals.{SameCalls, SameLocals}
use Rattle.typed_trees.specs.TypedStatements.{IsTyped}
use Rattle.typed_trees.proofs.LocalTypes.{calls_follow}
use Rattle.typed_trees.proofs.StatementsFollow.{typed_follows}
use Rattle.sym_stmt.specs.FactSlots.{AreSlotsOf}
use Rattle.sym_stmt.specs.Programs.{header, functions_of, scope_in, signatures_of}
use Rattle.sym_stmt.proofs.Arguments.{slot_type_is}

other_number : (j n : ℕ) → j < n → (j == n) ≡ false
other_number j n h =
    false_from_ne_true (j == n) (λ e.
    let same = (unsigned_Decides j n).0 e in omega (arith, same))

-- a body beside the functions of its program
module _ (w : WProg) (T : List Fact) (i : ℕ) (params : List (List ℕ)) (l : Limits)
    (n : ℕ) (slots : Slots) (h : AreSlotsOf (single (set_of T)) i params l n slots) where
  abbrev inner : Scope
  inner = scope_in w T i

  abbrev beside : Scope
  beside = body_scope (signatures_of w T) slots

  same_locals : SameLocals inner beside
  same_locals x =
      sym (slot_type_is (single (set_of T)) i params l n slots h x)
      ∙ sym (local_type_is (signatures_of w T) slots x)

  same_slots : (j : ℕ) (x : Slot) → j < length (map header (functions_of w))
      → single (set_of T) j x ≡ beside.slots j x
  same_slots j x less =
      sym (ap (λ (b : Bool). if b then body_slot slots x else single (set_of T) j x)
      (other_number j (length (map header (functions_of w))) less))

  same_calls : SameCalls inner beside
  same_calls = calls_follow inner beside refl same_slots

  pub body_typed : (f : WFunc) → IsTyped inner (weighted_body f.body)
      → IsTyped beside (weighted_body f.body)
  body_typed f typed =
      typed_follows inner beside same_locals same_calls
      (h.result ∙ sym (result_type_is (signatures_of w T) slots)) (weighted_body f.body) typed
