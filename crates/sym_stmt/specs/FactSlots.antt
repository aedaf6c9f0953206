-- The slots of a function that facts give.
use Rattle.std.specs.Prelude.{◌≡◌, ◌==◌, false, ℕ, List, [], ◌∷◌, map, Some, None}
use Rattle.std.specs.Prelude.{if◌then◌else◌}
use Rattle.std.specs.List.{flat_map}
use Rattle.mpy_tree.specs.declared.limits.Limits.{Limits}
use Rattle.mpy_tree.specs.declared.typing.Fact.{Fact}
use Rattle.mpy_tree.specs.declared.typing.Slot.{Slot}
use Rattle.mpy_tree.specs.declared.typing.Slot.TheVariants as slot
use Rattle.mpy_tree.specs.Locals.{and_new, is_among}
use Rattle.mpy_tree.specs.Names.{has_twice}
use Rattle.mpy_tree.specs.Rules.{Slots as SlotTypes}
use Rattle.sym_paths.specs.declared.slots.Slots.{Slots}
use Rattle.sym_paths.specs.Places.{Begins}

abbrev pub local_name : Slot → List (List ℕ)
local_name (slot.Local x) = x ∷ []
local_name slot.Result = []

-- the local of a function about which a fact is, if it is one of that function
abbrev pub named_by : ℕ → Fact → List (List ℕ)
named_by i f = if f.func == i then local_name f.slot else []

-- the parameters of a function, and then each other local about which there is a fact
abbrev pub local_names : ℕ → List (List ℕ) → List Fact → List (List ℕ)
local_names i params facts = and_new params (flat_map (named_by i) facts)

-- Locals with their types, the type of the result, if it has one, and how many printed values are
-- kept: the parameters are the first, no name stands twice, each has its type, and no other local
-- has one.
pub record AreSlotsOf (types : SlotTypes) (i : ℕ) (params : List (List ℕ)) (l : Limits)
    (n : ℕ) (slots : Slots) : Type 0 where
  pub limits : slots.limits ≡ l
  pub begins : Begins params slots.names
  pub differ : has_twice slots.names ≡ false
  pub typed : map (λ t. Some t) slots.types ≡ map (λ x. types i (slot.Local x)) slots.names
  pub others : (x : List ℕ) → is_among slots.names x ≡ false → types i (slot.Local x) ≡ None
  pub result : types i slot.Result ≡ slots.result
  pub prints : slots.prints ≡ n
