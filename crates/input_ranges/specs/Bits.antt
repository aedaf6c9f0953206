-- One truth value in the place of others.
use Rattle.std.specs.Prelude.{Bool, not}
use Rattle.bit_words.specs.Bits.{differ}

-- one truth value is another
abbrev pub is_bit : Bool → Bool → Bool
is_bit known b = not (differ b known)
