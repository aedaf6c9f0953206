-- How long a name may be.
use Rattle.std.specs.Prelude.{ℕ, Bool, List, length, nat_lt}

-- a name of more than 40 bytes
abbrev pub is_long : List ℕ → Bool
is_long x = nat_lt 40 (length x)
