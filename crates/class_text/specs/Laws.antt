-- Laws of lists.
use Rattle.std.specs.Prelude.{◌≡◌, ℕ, List}
use Rattle.class_text.specs.Listings.{Lists, StopsAt}

abbrev pub IsOneList : Type 0
IsOneList = (text : List ℕ) (names others : List (List ℕ)) → Lists text names
    → Lists text others → names ≡ others

abbrev pub IsOneStop : Type 0
IsOneStop = (text : List ℕ) (line other : ℕ) → StopsAt text line → StopsAt text other
    → line ≡ other

abbrev pub AreApart : Type 0
AreApart = (text : List ℕ) (names : List (List ℕ)) (line : ℕ) → Lists text names
    → StopsAt text line → ⊥
