-- The names of an expression, and the picks, as bits: their types, and what they read as.
use Rattle.std.specs.Prelude.{◌≡◌, ◌<◌, ◌≤◌, ℕ, Bool, true, false, List, [], length, map, Option}
use Rattle.std.specs.Prelude.{Some, None}
use Rattle.std.specs.Prelude.{slice_get, option_map}
use Rattle.mpy_tree.specs.declared.typing.Ty.{Ty}
use Rattle.mpy_tree.specs.declared.typing.Slot.{Slot}
use Rattle.mpy_tree.specs.declared.typing.Slot.TheVariants as slot
use Rattle.mpy_tree.specs.declared.value.Value.{Value}
use Rattle.mpy_tree.specs.Locals.{place_of}
use Rattle.mpy_tree.specs.Values.{Locals}
use Rattle.bit_words.specs.Logic.{OwnsAll}
use Rattle.bit_words.specs.Words.{nat_of}
use Rattle.sym_values.specs.declared.value.SymValue.{SymValue}
use Rattle.sym_values.specs.Forms.{form_for, form_of, joined, values_bits}
use Rattle.sym_values.specs.Reading.{Reading, read, sure}
use Rattle.choice_tree.specs.Typing.{Scope}
use Rattle.choice_tree.specs.WeightedTrees.{Weighted, Weighteds, Others, plainly, pick}
use Rattle.choice_tree.specs.WeightedTrees.{no_weighted, weighted_and, no_others, other_and}
use Rattle.sym_nodes.specs.declared.env.Env.{Env}
use Rattle.sym_nodes.specs.Operands.{ty_of}

-- the type of the value at a place
abbrev pub type_at : {B : Type 0} → List (SymValue B) → Option ℕ → Option Ty
type_at values None = None
type_at values (Some i) = option_map ty_of (slice_get values i)

abbrev pub slot_type : {B : Type 0} → List (List ℕ) → List (SymValue B) → Slot → Option Ty
slot_type names values (slot.Local x) = type_at values (place_of names x)
slot_type names values slot.Result = None

-- a function whose locals have the types of the values, of a program that has no other
abbrev pub scope_of : {B : Type 0} → Env B → Scope
scope_of env =
    record { slots = λ i x. slot_type env.names env.values x; program = []; number = 0 }

-- Each name has a value and a bit, all of which belong to a state, as do the picks; behind those of
-- the names there may be more. The values have the forms that values of their types have at the
-- limits.
pub record IsEnvIn {S B : Type 0} (owns : S → B → Type 0) (s : S) (env : Env B) : Type 0 where
  pub valued : length env.names ≤ length env.values
  pub marked : length env.names ≤ length env.set
  pub forms : (i : ℕ) (x : SymValue B) → i < length env.names → slice_get env.values i ≡ Some x
      → form_of x ≡ form_for env.limits (ty_of x)
  pub values : OwnsAll owns s (values_bits env.values)
  pub marks : OwnsAll owns s env.set
  pub picks : OwnsAll owns s (joined env.picks)

-- what a local reads as: its value where its bit is true
abbrev pub LocalReads : Bool → Reading → Option Value → Type 0
LocalReads set reading None = set ≡ false
LocalReads set reading (Some v) = (set ≡ true) × (reading ≡ sure v)

-- the names read as the locals of a state
pub record StateReads {B : Type 0} (rd : B → Bool) (env : Env B) (s : Locals) : Type 0 where
  pub local : (i : ℕ) (name : List ℕ) (x : SymValue B) (bit : B) → slice_get env.names i ≡ Some name
      → slice_get env.values i ≡ Some x → slice_get env.set i ≡ Some bit
      → LocalReads (rd bit) (read rd x) (s name)

-- the picks read as the members that are chosen
pub record PicksRead {B : Type 0} (rd : B → Bool) (picks : List (List B)) (m : ℕ → ℕ)
    : Type 0 where
  pub member : (i : ℕ) (bits : List B) → slice_get picks i ≡ Some bits
      → nat_of (map rd bits) ≡ m i

-- where a pick stands its number is one of the picks'
abbrev pub HasPick : {B : Type 0} → List (List B) → Weighted → Type 0
HasPick picks (plainly k ws) = Unit {0}
HasPick picks (pick number base os) = number < length picks

-- the numbers of all picks of a tree are
abbrev mutual
  pub HasPicks : {B : Type 0} → List (List B) → Weighted → Type 0
  HasPicks picks (plainly k ws) = AllHavePicks picks ws
  HasPicks picks (pick number base os) =
      (number < length picks) × HasPicks picks base × OthersHavePicks picks os

  pub AllHavePicks : {B : Type 0} → List (List B) → Weighteds → Type 0
  AllHavePicks picks no_weighted = Unit {0}
  AllHavePicks picks (weighted_and w ws) = HasPicks picks w × AllHavePicks picks ws

  pub OthersHavePicks : {B : Type 0} → List (List B) → Others → Type 0
  OthersHavePicks picks no_others = Unit {0}
  OthersHavePicks picks (other_and rule cost w os) = HasPicks picks w × OthersHavePicks picks os
