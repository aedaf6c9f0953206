-- Functions that an expression may call, their arguments as bits, and the scope of an expression
-- that calls them.
use Rattle.std.specs.Prelude.{ℕ, ◌==◌, List, All, length, map, if◌then◌else◌, Option, Some}
use Rattle.mpy_tree.specs.declared.limits.Limits.{Limits}
use Rattle.mpy_tree.specs.declared.typing.Ty.{Ty}
use Rattle.mpy_tree.specs.declared.typing.Slot.TheVariants as slot
use Rattle.mpy_tree.specs.Options.{◌>>=◌}
use Rattle.mpy_tree.specs.Rules.{Slots, callee_type}
use Rattle.mpy_tree.specs.SetTypes.{called}
use Rattle.mpy_tree.specs.Syntax.{Routine}
use Rattle.choice_tree.specs.Typing.{Scope}
use Rattle.sym_values.specs.declared.value.SymValue.{SymValue}
use Rattle.sym_nodes.specs.declared.env.Env.{Env}
use Rattle.sym_nodes.specs.Environments.{slot_type}
use Rattle.sym_nodes.specs.Operands.{IsTypedIn, ty_of}

-- functions that an expression may call, with the types of their slots
pub record Signatures : Type 0 where
  pub program : List Routine
  pub slots : Slots

-- an expression that stands in a function beside those of the program, whose locals have the types
-- of the values
abbrev pub scope_at : {B : Type 0} → Signatures → Env B → Scope
scope_at c env = record {
  slots = λ i x.
      if i == length c.program then slot_type env.names env.values x else c.slots i x;
  program = c.program;
  number = length c.program;
}

-- the type of what a function gives
abbrev pub result_type : Signatures → List ℕ → Option Ty
result_type c f = called c.program f >>= λ g. c.slots g.number slot.Result

-- the same on arguments of these types, where it takes them
abbrev pub given_type : Signatures → List ℕ → List (Option Ty) → Option Ty
given_type c f os = callee_type c.slots (called c.program f) os

-- the types of values, each of which has one
abbrev pub value_types : {B : Type 0} → List (SymValue B) → List (Option Ty)
value_types = map (λ x. Some (ty_of x))

-- values of the forms that values of their types have at given limits
pub record AreArgumentsIn {S B : Type 0} (owns : S → B → Type 0) (s : S) (l : Limits)
    (args : List (SymValue B)) : Type 0 where
  pub each : All (IsTypedIn owns s l) args
