-- The members that a value has, each by its place.
use Rattle.std.proofs.Common.{◌≡◌, ℕ, List, ℤ}
use Rattle.std.specs.Prelude.{slice_get, option_map}
use Rattle.std.proofs.lemmas.Option.{slice_get-map}
use Rattle.mpy_tree.specs.declared.value.Value.TheVariants.{Int}
use Rattle.mpy_tree.specs.Operations.{numbers, character, characters}

pub number_at : (xs : List ℤ) (k : ℕ) → slice_get (numbers xs) k ≡ option_map Int (slice_get xs k)
number_at xs k = slice_get-map Int xs k

pub character_at : (cs : List ℕ) (k : ℕ) → slice_get (characters cs) k ≡ option_map character (slice_get cs k)
character_at cs k = slice_get-map character cs k
