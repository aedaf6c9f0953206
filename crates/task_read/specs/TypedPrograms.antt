-- Which typed program a text spells that a run enters so, and which texts are refused.
use Rattle.std.specs.Prelude.{◌≡◌, ◌⊎◌, ℕ, List, [], Some}
use Rattle.mpy_tree.specs.declared.refusal.Cause.{Cause}
use Rattle.mpy_tree.specs.declared.refusal.Cause.TheVariants as cause
use Rattle.mpy_tree.specs.declared.typing.Ty.{Ty}
use Rattle.mpy_tree.specs.declared.typing.Fact.{Fact}
use Rattle.mpy_tree.specs.declared.typing.TypeError.{TypeError}
use Rattle.mpy_tree.specs.declared.typing.TypeError.TheVariants.{Fault, Conflict}
use Rattle.mpy_tree.specs.Entries.{Entry}
use Rattle.mpy_tree.specs.Syntax.{Routine}
use Rattle.mpy_tree.specs.Leasts.{least}
use Rattle.mpy_tree.specs.Rules.{single}
use Rattle.mpy_tree.specs.Sharing.{shared}
use Rattle.mpy_tree.specs.Typings.{IsTyping, IsFirstFault, IsEarlyFault, set_of}
use Rattle.mpy_parser.specs.Programs.{IsProgram, IsRefused}

-- the lines of the statements by which two names could share a list
abbrev pub shared_lines : List Fact → List Routine → List ℕ
shared_lines T p = shared (single (set_of T)) p

-- the text spells the program, these facts are its typing, and no statement shares a list
pub record IsTypedProgram (bytes : List ℕ) (e : Entry) (p : List Routine) (T : List Fact)
    : Type 0 where
  pub read : IsProgram bytes p
  pub typing : IsTyping T p e
  pub unshared : shared_lines T p ≡ []

-- the first fault of the names and types of a program
abbrev pub IsFaultOf : TypeError → List Routine → Entry → Type 0
IsFaultOf f p e = IsEarlyFault f p e ⊎ IsFirstFault f p e

-- the least line of a statement that shares a list
abbrev pub IsSharedOn : List Fact → List Routine → Cause → ℕ → Type 0
IsSharedOn T p c line = (c ≡ cause.Shared) × (least (shared_lines T p) ≡ Some line)

-- the cause and the line that the first fault of the names and types of a program is told by
pub data IsTypingRefused (p : List Routine) (e : Entry) : Cause → ℕ → Type 0 where
  by_fault : (c : Cause) (line : ℕ)
      → IsFaultOf (Fault c line) p e
      → IsTypingRefused p e c line
  by_conflict : (line : ℕ) (one other : Ty)
      → IsFaultOf (Conflict line one other) p e
      → IsTypingRefused p e cause.TypeFault line

-- The first cause for which a text is refused. Each step goes over the whole program before the
-- next: its text; names, entry and types; sharing.
pub data IsProgramRefused (bytes : List ℕ) (e : Entry) : Cause → ℕ → Type 0 where
  by_text : (c : Cause) (line : ℕ)
      → IsRefused bytes c line
      → IsProgramRefused bytes e c line
  by_typing : (p : List Routine) (c : Cause) (line : ℕ)
      → IsProgram bytes p
      → IsTypingRefused p e c line
      → IsProgramRefused bytes e c line
  by_sharing : (p : List Routine) (T : List Fact) (c : Cause) (line : ℕ)
      → IsProgram bytes p
      → IsTyping T p e
      → IsSharedOn T p c line
      → IsProgramRefused bytes e c line
