-- How many lists there are.
use Rattle.std.specs.Prelude.{ℕ, zero, suc, ◌+◌, ◌^◌}

-- how many lists over so many elements have one of the first k lengths from the least on
abbrev pub lists_count : ℕ → ℕ → ℕ → ℕ
lists_count base least zero = 0
lists_count base least (suc k) = lists_count base least k + base ^ (least + k)
