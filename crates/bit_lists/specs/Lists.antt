-- What a list as bits is, and what it reads as.
use Rattle.std.specs.Prelude.{◌≡◌, ◌≤◌, ℕ, Bool, List, [], length, map, take, All}
use Rattle.std.specs.Prelude.{slice_index_or, not, true, nat_le}
use Rattle.bit_words.specs.Results.{IsWordIn}
use Rattle.bit_words.specs.Words.{nat_read}

-- words of one width, which belong to a state
pub record AreWordsIn {S B : Type 0} (owns : S → B → Type 0) (s : S) (width : ℕ)
    (items : List (List B)) : Type 0 where
  pub each : All (IsWordIn owns s width) items

-- a length of 5 bits and so many words of one width, which belong to a state
pub record IsListIn {S B : Type 0} (owns : S → B → Type 0) (s : S) (width cap : ℕ)
    (len : List B) (items : List (List B)) : Type 0 where
  pub length_of : IsWordIn owns s 5 len
  pub items_of : AreWordsIn owns s width items
  pub many : length items ≡ cap

-- what words read as
abbrev pub words_read : {S B : Type 0} → (S → List Bool → B → Bool) → S → List Bool
    → List (List B) → List (List Bool)
words_read reads state values items = map (map (reads state values)) items

-- the items within a length
abbrev pub list_read : {S B : Type 0} → (S → List Bool → B → Bool) → S → List Bool
    → List B → List (List B) → List (List Bool)
list_read reads state values len items =
    take (nat_read reads state values len) (words_read reads state values items)

-- the items allow the length
abbrev pub IsProper : {S B : Type 0} → (S → List Bool → B → Bool) → S → List Bool
    → List B → List (List B) → Type 0
IsProper reads state values len items = nat_read reads state values len ≤ length items

-- the word at a place, and no bits past the end
abbrev pub word_at : List (List Bool) → ℕ → List Bool
word_at words place = slice_index_or words place []

-- a fault says that a list has more than `cap` items; where it has at most so many it is read
pub record ReadsWithin (cap : ℕ) (fault : Bool) (read items : List (List Bool)) : Type 0 where
  pub passes : fault ≡ not (nat_le (length items) cap)
  pub reads_as : nat_le (length items) cap ≡ true → read ≡ items
