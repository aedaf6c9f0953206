-- What every call states of the word that it makes.
use Rattle.std.specs.Prelude.{◌≡◌, ℕ, List, length}
use Rattle.bit_words.specs.Logic.{OwnsAll}

-- a list of bits of a width, which belong to a state
pub record IsWordIn {S B : Type 0} (owns : S → B → Type 0) (s : S) (n : ℕ) (word : List B)
    : Type 0 where
  pub owned : OwnsAll owns s word
  pub width : length word ≡ n

-- a word of a width and its Overflow, which belong to a state
pub record IsCheckedIn {S B : Type 0} (owns : S → B → Type 0) (s : S) (n : ℕ)
    (word : List B) (over : B) : Type 0 where
  pub owned : OwnsAll owns s word
  pub owned_over : owns s over
  pub width : length word ≡ n

-- and the operation's other fault
pub record IsPartialIn {S B : Type 0} (owns : S → B → Type 0) (s : S) (n : ℕ)
    (word : List B) (over fault : B) : Type 0 where
  pub owned : OwnsAll owns s word
  pub owned_over : owns s over
  pub owned_fault : owns s fault
  pub width : length word ≡ n
