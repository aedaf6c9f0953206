-- What a range gives.
use Rattle.std.specs.Prelude.{◌≡◌, ℕ, ℤ, Bool, true, not, nat_le, List, map}
use Rattle.mpy_tree.specs.Operations.{progression, range_count}
use Rattle.bit_words.specs.Words.{int_of}

-- a fault says that more than `cap` of the numbers a, a + c, .. stand before b; where at most so
-- many do they are read
pub record RangeIs (cap : ℕ) (fault : Bool) (read : List (List Bool)) (a b c : ℤ) : Type 0 where
  pub passes : fault ≡ not (nat_le (range_count a b c) cap)
  pub reads_as : nat_le (range_count a b c) cap ≡ true
      → map int_of read ≡ progression a c (range_count a b c)
