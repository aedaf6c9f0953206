-- What stands in the files after a call, beside what stood there before.
use Rattle.std.specs.Prelude.{◌≡◌, ◌≢◌, ℕ, List, Some}
use Rattle.std.specs.Option.{option_map}
use Rattle.grade_io.specs.Devices.{ShelfState}

-- every other name keeps its bytes, and its file
pub record OthersKept (name : List ℕ) (before after : ShelfState) : Type 0 where
  pub bytes : (other : List ℕ) → other ≢ name → after.holds other ≡ before.holds other
  pub files : (other : List ℕ) → other ≢ name → after.absent other ≡ before.absent other

-- no file changed
pub record FilesLeft (before after : ShelfState) : Type 0 where
  pub bytes : after.holds ≡ before.holds
  pub files : after.absent ≡ before.absent

-- the name holds these bytes, where the shelf tells it, and every other name keeps its own
pub record Stored (name bytes : List ℕ) (before after : ShelfState) : Type 0 where
  pub stored : after.holds name ≡ option_map (λ _. bytes) (before.holds name)
  pub others : OthersKept name before after

-- the name holds these bytes, where the shelf tells what it holds
abbrev pub Holds : ShelfState → List ℕ → List ℕ → Type 0
Holds shelf name bytes = (file : List ℕ) → shelf.holds name ≡ Some file → bytes ≡ file
