-- A bit for each place that a number may say.
use Rattle.std.specs.Prelude.{◌≡◌, ◌<◌, ℕ, Bool, false, List, slice_index_or, nat_eq}

-- of so many bits the one at the number's place is true and the others are false, where the number
-- is a place
abbrev pub Decodes : ℕ → ℕ → List Bool → Type 0
Decodes count number bits =
    number < count → (k : ℕ) → k < count → slice_index_or bits k false ≡ nat_eq k number
