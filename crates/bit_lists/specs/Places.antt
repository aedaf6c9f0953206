-- Which place from the front an index says.
use Rattle.std.specs.Prelude.{◌≡◌, ℕ, ℤ, pos, negsuc, ◌+ℤ◌, Bool, true, false, List, Option, Some}
use Rattle.std.specs.Prelude.{None, slice_set}
use Rattle.bit_lists.specs.Lists.{word_at}

-- below zero the length is added; the place may lie outside of the list
abbrev pub from_front : ℤ → ℕ → ℤ
from_front (pos i) n = pos i
from_front (negsuc i) n = negsuc i +ℤ pos n

-- the item at a place, or a fault where there is none
abbrev pub ItemIs : Bool → List Bool → List (List Bool) → Option ℕ → Type 0
ItemIs fault word items None = fault ≡ true
ItemIs fault word items (Some place) = (fault ≡ false) × (word ≡ word_at items place)

-- the list with another item at a place, or a fault where there is none
abbrev pub PutIs : Bool → List (List Bool) → List (List Bool) → List Bool → Option ℕ → Type 0
PutIs fault read items word None = fault ≡ true
PutIs fault read items word (Some place) = (fault ≡ false) × (read ≡ slice_set items place word)
