-- The first fault of names and types of a program.
use Rattle.std.specs.Prelude.{ℕ, ◌+◌, ◌==◌, Bool, true, false, not, List, [], ◌∷◌, ◌++◌, length}
use Rattle.std.specs.Prelude.{map, Option, Some, None, if◌then◌else◌, nat_lt}
use Rattle.mpy_tree.specs.declared.typing.Ty.{Ty}
use Rattle.mpy_tree.specs.declared.typing.Ty.TheVariants as ty
use Rattle.mpy_tree.specs.declared.typing.Slot.{Slot}
use Rattle.mpy_tree.specs.declared.typing.Slot.TheVariants as slot
use Rattle.mpy_tree.specs.declared.refusal.Cause.TheVariants as cause
use Rattle.mpy_tree.specs.Running.{found}
use Rattle.mpy_tree.specs.Entries.{Entry}
use Rattle.mpy_tree.specs.Syntax.{Routine}
use Rattle.mpy_tree.specs.declared.typing.TypeSet.{TypeSet}
use Rattle.mpy_tree.specs.declared.typing.TypeError.{TypeError}
use Rattle.mpy_tree.specs.declared.typing.TypeError.TheVariants.{Fault, Conflict}
use Rattle.mpy_tree.specs.declared.typing.Fact.{Fact}
use Rattle.mpy_tree.specs.TypeSets.{only}
use Rattle.mpy_tree.specs.SetTypes.{FactSet, Callee, called, same_place}
use Rattle.mpy_tree.specs.Sites.{Site, does, asks, sites}
use Rattle.mpy_tree.specs.Names.{lines_of, name_lines, arity_lines}
use Rattle.mpy_tree.specs.Locals.{is_among, assigned, locals}
use Rattle.mpy_tree.specs.Leasts.{least}
use Rattle.mpy_tree.specs.Rules.{Slots, single, site_obeys}

-- a slot with its line
pub record Place : Type 0 where
  pub func : ℕ
  pub slot : Slot
  pub line : ℕ

abbrev pub place : ℕ → Slot → ℕ → Place
place i x line = record { func = i; slot = x; line = line }

-- the first line on which a name is assigned
abbrev pub assigned_on : List ℕ → List Site → ℕ
assigned_on x [] = 0
assigned_on x (does line act ∷ ss) = if is_among (assigned act) x then line else assigned_on x ss
assigned_on x (asks line e ∷ ss) = assigned_on x ss

abbrev pub local_line : Routine → List ℕ → ℕ
local_line r x = if is_among r.params x then r.line else assigned_on x (sites r.body)

abbrev pub routine_slots : ℕ → Routine → List Place
routine_slots i r =
    map (λ x. place i (slot.Local x) (local_line r x)) (locals r)
    ++ place i slot.Result r.line ∷ []

abbrev pub slots_from : ℕ → List Routine → List Place
slots_from i [] = []
slots_from i (r ∷ rs) = routine_slots i r ++ slots_from (i + 1) rs

-- the slots in order: of each function the locals and then the result
abbrev pub slots : List Routine → List Place
slots p = slots_from 0 p

abbrev pub listed_if : Bool → Ty → List Ty → List Ty
listed_if true t ts = t ∷ ts
listed_if false t ts = ts

-- the types of a set, in the order Int, Bool, List, Text
abbrev pub listed : TypeSet → List Ty
listed s =
    listed_if s.int ty.Int
    (listed_if s.bool ty.Bool (listed_if s.list ty.List (listed_if s.text ty.Text [])))

abbrev pub number_of : Option Callee → Option ℕ
number_of None = None
number_of (Some g) = Some g.number

-- the function whose result may have no type, if there is one
abbrev pub free_function : List Routine → Entry → Option ℕ
free_function p e = if e.free_result then number_of (called p e.name) else None

-- whether a slot may have no type
abbrev pub may_lack : Option ℕ → Place → Bool
may_lack None s = false
may_lack (Some j) s = same_place j slot.Result s.func s.slot

-- the fault of a slot with these types, which may have none or must have one
abbrev pub slot_fault : Bool → List Ty → ℕ → Option TypeError
slot_fault may_be_none [] line = if may_be_none then None else Some (Fault cause.Undetermined line)
slot_fault may_be_none (a ∷ []) line = None
slot_fault may_be_none (a ∷ b ∷ ts) line = Some (Conflict line a b)

abbrev pub or_fault : Option TypeError → Option TypeError → Option TypeError
or_fault None other = other
or_fault (Some e) other = Some e

-- the first slot without exactly one type, but for the result of the function `free` without any
abbrev pub slots_fault : Option ℕ → FactSet → List Place → Option TypeError
slots_fault free F [] = None
slots_fault free F (s ∷ ss) =
    or_fault (slot_fault (may_lack free s) (listed (F s.func s.slot)) s.line)
    (slots_fault free F ss)

-- the fact that a slot has a type
abbrev pub fact : ℕ → Slot → Ty → Fact
fact i x t = record { func = i; slot = x; ty = t }

abbrev pub facts_with : Place → Option Ty → List Fact → List Fact
facts_with s None fs = fs
facts_with s (Some t) fs = fact s.func s.slot t ∷ fs

-- the facts about the slots that have exactly one type, in order
abbrev pub facts_at : FactSet → List Place → List Fact
facts_at F [] = []
facts_at F (s ∷ ss) = facts_with s (only (F s.func s.slot)) (facts_at F ss)

abbrev pub broken_from : Slots → List Routine → ℕ → List Routine → List ℕ
broken_from S p i [] = []
broken_from S p i (r ∷ rs) =
    lines_of (λ s. not (site_obeys S p i s)) (sites r.body) ++ broken_from S p (i + 1) rs

abbrev pub fault_on : Option ℕ → Option TypeError
fault_on None = None
fault_on (Some line) = Some (Fault cause.TypeFault line)

-- the least line of a node that breaks its rule
abbrev pub nodes_fault : Slots → List Routine → Option TypeError
nodes_fault S p = fault_on (least (broken_from S p 0 p))

-- the least line of a fault of names or numbers of arguments; on one line that of names
abbrev pub earlier : Option ℕ → Option ℕ → Option TypeError
earlier None None = None
earlier (Some n) None = Some (Fault cause.Name n)
earlier None (Some a) = Some (Fault cause.Arity a)
earlier (Some n) (Some a) =
    if nat_lt a n then Some (Fault cause.Arity a) else Some (Fault cause.Name n)

abbrev pub names_fault : List Routine → Option TypeError
names_fault p = earlier (least (name_lines p)) (least (arity_lines p))

abbrev pub entry_fault : Option Routine → ℕ → Option TypeError
entry_fault None n = Some (Fault cause.Entry 1)
entry_fault (Some r) n = if length r.params == n then None else Some (Fault cause.Entry r.line)

-- the first fault, where these facts are the least set
abbrev pub first_fault : List Routine → Entry → FactSet → Option TypeError
first_fault p e F =
    or_fault (names_fault p)
    (or_fault (entry_fault (found p e.name) (length e.types))
    (or_fault (slots_fault (free_function p e) F (slots p)) (nodes_fault (single F) p)))
