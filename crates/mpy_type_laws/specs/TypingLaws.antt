-- A program has one typing or one first fault, and never both; its typing is the least set of
-- facts.
use Rattle.std.specs.Prelude.{◌≡◌, List, None}
use Rattle.mpy_tree.specs.declared.typing.Fact.{Fact}
use Rattle.mpy_tree.specs.declared.typing.TypeError.{TypeError}
use Rattle.mpy_tree.specs.Syntax.{Routine}
use Rattle.mpy_tree.specs.Entries.{Entry}
use Rattle.mpy_tree.specs.Flows.{IsLeast, IsPart}
use Rattle.mpy_tree.specs.Faults.{first_fault}
use Rattle.mpy_tree.specs.Typings.{IsTyping, IsFirstFault, IsEarlyFault, AreTypes, set_of}

abbrev pub OneTyping : Type 0
OneTyping =
    (T U : List Fact) (p : List Routine) (entry : Entry)
    → IsTyping T p entry → IsTyping U p entry → T ≡ U

abbrev pub TypedOrAtFault : Type 0
TypedOrAtFault =
    (T : List Fact) (e : TypeError) (p : List Routine) (entry : Entry)
    → IsTyping T p entry → ¬ IsFirstFault e p entry × ¬ IsEarlyFault e p entry

abbrev pub OneFault : Type 0
OneFault =
    (d e : TypeError) (p : List Routine) (entry : Entry)
    → IsFirstFault d p entry → IsFirstFault e p entry → d ≡ e

abbrev pub EarlyIsFirst : Type 0
EarlyIsFirst =
    (d e : TypeError) (p : List Routine) (entry : Entry)
    → IsEarlyFault d p entry → IsFirstFault e p entry → d ≡ e

-- The facts of a typing, as a set, are the least set, and by them the program has no fault.
abbrev pub FactsAreTyping : Type 0
FactsAreTyping =
    (T : List Fact) (p : List Routine) (entry : Entry)
    → IsTyping T p entry
    → IsLeast (set_of T) p entry × (first_fault p entry (set_of T) ≡ None)

-- Each list of facts that types the program has the facts of the least set.
abbrev pub TypesHaveTheLeast : Type 0
TypesHaveTheLeast =
    (T U : List Fact) (p : List Routine) (entry : Entry)
    → IsTyping T p entry → AreTypes U p entry → IsPart (set_of T) (set_of U)
