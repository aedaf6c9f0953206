-- Lists whose items go up or down by some places.
use Rattle.std.specs.Prelude.{◌≡◌, ◌<◌, ◌+◌, ◌-◌, ℕ, Bool, List, length, nat_lt, if◌then◌else◌}
use Rattle.bit_lists.specs.declared.shifts.Direction.{Direction}
use Rattle.bit_lists.specs.declared.shifts.Direction.TheVariants.{Up, Down}
use Rattle.bit_lists.specs.Lists.{word_at}

-- where the item at a place comes from, among so many; where none comes there, it stays
abbrev pub source : Direction → ℕ → ℕ → ℕ → ℕ
source Up by count place = if nat_lt place by then place else place - by
source Down by count place = if nat_lt (place + by) count then place + by else place

-- the item at the place k goes to the place k + n, or the other way round
abbrev pub IsMoved : Direction → ℕ → List (List Bool) → List (List Bool) → Type 0
IsMoved Up n old new = (k : ℕ) → k + n < length old → word_at new (k + n) ≡ word_at old k
IsMoved Down n old new = (k : ℕ) → k + n < length old → word_at new k ≡ word_at old (k + n)
