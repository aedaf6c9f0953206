-- Two numbers as one.
use Rattle.std.specs.Prelude.{ℕ, ◌+◌, ◌*◌}

-- a number from which two can be told
unfoldable pub paired : ℕ → ℕ → ℕ
paired a b = (a + b) * (a + b) + a
