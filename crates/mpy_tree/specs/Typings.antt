-- When facts type a program that is entered so, which facts are its typing, and its first fault.
use Rattle.std.specs.Prelude.{◌≡◌, ⊤, List, [], ◌∷◌, length, ◌⊎◌, Some, None, if◌then◌else◌, IsTrue}
use Rattle.std.specs.declared.result.Result.{Result}
use Rattle.std.specs.declared.result.Result.TheVariants.{Ok, Err}
use Rattle.std.specs.List.{All, list_any}
use Rattle.mpy_tree.specs.declared.typing.Fact.{Fact}
use Rattle.mpy_tree.specs.declared.typing.Types.{Types}
use Rattle.mpy_tree.specs.declared.typing.TypeError.{TypeError}
use Rattle.mpy_tree.specs.declared.typing.TypeError.TheVariants.{NoMemory}
use Rattle.mpy_tree.specs.Syntax.{Routine}
use Rattle.mpy_tree.specs.Running.{found}
use Rattle.mpy_tree.specs.Entries.{Entry}
use Rattle.mpy_tree.specs.TypeSets.{no_types, just, join}
use Rattle.mpy_tree.specs.SetTypes.{FactSet, same_place}
use Rattle.mpy_tree.specs.Flows.{IsLeast, IsClosed, flows}
use Rattle.mpy_tree.specs.Faults.{slots, facts_at, first_fault, names_fault, entry_fault, or_fault}

-- the set of the facts of a list
abbrev pub set_of : List Fact → FactSet
set_of [] = λ j y. no_types
set_of (f ∷ fs) = λ j y.
    if same_place f.func f.slot j y then join (just f.ty) (set_of fs j y) else set_of fs j y

abbrev pub IsOfSlot : List Routine → Fact → Type 0
IsOfSlot p f = IsTrue (list_any (λ s. same_place f.func f.slot s.func s.slot) (slots p))

-- The facts type the program: they are about its slots, each assignment, `for`, call and `return`
-- has its result among them, each slot has exactly one type, and no name, call or node is at fault.
-- The entry's result may have no type where the entry says so; a node that calls it then has none.
pub record AreTypes (T : List Fact) (p : List Routine) (e : Entry) : Type 0 where
  pub of_slots : All (IsOfSlot p) T
  pub closed : IsClosed (set_of T) p (flows p e)
  pub faultless : first_fault p e (set_of T) ≡ None

-- The facts are the typing of the program: those of the least set, one for each slot in order,
-- where by that set the program has no fault.
pub record IsTyping (T : List Fact) (p : List Routine) (e : Entry) : Type 0 where
  pub set : FactSet
  pub least : IsLeast set p e
  pub faultless : first_fault p e set ≡ None
  pub facts : T ≡ facts_at set (slots p)

-- the first fault by the least set of facts
pub record IsFirstFault (fault : TypeError) (p : List Routine) (e : Entry) : Type 0 where
  pub set : FactSet
  pub least : IsLeast set p e
  pub first : first_fault p e set ≡ Some fault

-- the fault of names or of the entry, for which no types are looked at
abbrev pub IsEarlyFault : TypeError → List Routine → Entry → Type 0
IsEarlyFault fault p e =
    or_fault (names_fault p) (entry_fault (found p e.name) (length e.types)) ≡ Some fault

-- what the check of a program answers
abbrev pub Checks : Result Types TypeError → List Routine → Entry → Type 0
Checks (Ok t) p e = IsTyping t.facts p e
Checks (Err NoMemory) p e = ⊤
Checks (Err fault) p e = IsEarlyFault fault p e ⊎ IsFirstFault fault p e
