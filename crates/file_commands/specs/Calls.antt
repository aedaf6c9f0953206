-- The calls of the shelf that a command makes.
use Rattle.std.specs.Prelude.{◌≡◌, ℕ, List, [], ◌∷◌, ◌++◌, Option, None, Some, take}
use Rattle.grade_io.specs.Devices.{ShelfState, ShelfCall, Store, added}
use Rattle.source_files.specs.Files.{fetches}
use Rattle.file_commands.specs.Commands.{FileCommand}

-- the store under a word, if there is one
abbrev pub stores : Option (List ℕ) → List ShelfCall
stores None = []
stores (Some name) = Store name ∷ []

-- the calls that a command may make: the fetches of its files, in order, and then its store
abbrev pub calls_of : {A : Type 0} → FileCommand A → List ShelfCall
calls_of c = fetches c.files ++ stores c.place

-- the calls that were made are the first of these
abbrev pub CallsInOrder : {A : Type 0} → FileCommand A → ShelfState → ShelfState → Type 0
CallsInOrder c before after = (n : ℕ) × (after.calls ≡ added before.calls (take n (calls_of c)))
