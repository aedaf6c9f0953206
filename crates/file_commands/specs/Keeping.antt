-- What stands in the files behind a command that may keep something.
use Rattle.std.specs.Prelude.{◌≡◌, ◌⊎◌, ℕ, List, [], ◌∷◌, Option, None, Some, Ok, Err}
use Rattle.grade_io.specs.Devices.{ShelfState, Rose, Store, StoreEnd, added}
use Rattle.grade_io.specs.Kept.{FilesLeft, OthersKept, Stored}
use Rattle.grade_io.specs.declared.devices.StoreError.TheVariants as store_error

-- The files are as before, but that the bytes that are kept stand under the word.
abbrev pub FilesAfter : Option (List ℕ) → Option (List ℕ) → ShelfState → ShelfState → Type 0
FilesAfter (Some name) (Some bytes) before after = Stored name bytes before after
FilesAfter (Some name) None before after = FilesLeft before after
FilesAfter None kept before after = FilesLeft before after

-- the files are as before, but that what stands under the word is open
abbrev pub OthersLeft : Option (List ℕ) → ShelfState → ShelfState → Type 0
OthersLeft (Some name) before after = OthersKept name before after
OthersLeft None before after = FilesLeft before after

-- what a store leaves that failed
pub record FailsToStore (name : List ℕ) (before after : ShelfState) : Type 0 where
  pub others : OthersKept name before after
  pub rose : Rose before.faults after.faults
  pub call : after.calls ≡ added before.calls (Store name ∷ [])

-- what it leaves where memory lacked
pub record LacksToStore (name : List ℕ) (before after : ShelfState) : Type 0 where
  pub others : OthersKept name before after
  pub still : after.faults ≡ before.faults
  pub call : (after.calls ≡ added before.calls (Store name ∷ [])) ⊎ (after.calls ≡ before.calls)

-- what it leaves else
pub record Stores (name bytes : List ℕ) (before after : ShelfState) : Type 0 where
  pub stored : Stored name bytes before after
  pub still : after.faults ≡ before.faults
  pub call : after.calls ≡ added before.calls (Store name ∷ [])

-- how a store of bytes under a name ends
abbrev pub StoreEnds : List ℕ → List ℕ → StoreEnd → ShelfState → ShelfState → Type 0
StoreEnds name bytes (Ok x) before after = Stores name bytes before after
StoreEnds name bytes (Err store_error.Failed) before after = FailsToStore name before after
StoreEnds name bytes (Err store_error.NoMemory) before after = LacksToStore name before after

-- nothing was stored
pub record KeepsNothing (end : StoreEnd) (before after : ShelfState) : Type 0 where
  pub end_is : end ≡ Ok tt
  pub same : after ≡ before

-- Bytes are stored where there are some, and a word for them.
abbrev pub Keeps : Option (List ℕ) → Option (List ℕ) → StoreEnd → ShelfState → ShelfState → Type 0
Keeps (Some name) (Some bytes) end before after = StoreEnds name bytes end before after
Keeps (Some name) None end before after = KeepsNothing end before after
Keeps None kept end before after = KeepsNothing end before after
