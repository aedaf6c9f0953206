-- How much the runs of programs on all inputs weigh.
use Rattle.std.specs.Prelude.{◌≡◌, ◌⊎◌, ℕ, ◌*◌, ◌<◌, nat_lt, Bool, true, List, length, min}
use Rattle.std.specs.Prelude.{sum_by}
use Rattle.std.specs.Int.{div_ceil}
use Rattle.std.specs.List.{list_any}
use Rattle.mpy_tree.specs.Shapes.{program_shape}
use Rattle.bounds_reader.specs.declared.bounds.Bounds.{Bounds}
use Rattle.choice_tree.specs.WeightedTrees.{lifted}
use Rattle.input_space.specs.Inputs.{inputs}
use Rattle.task_read.specs.Sources.{Typed}
use Rattle.tree_weights.specs.Weights.{program_weight}

-- what one run of a program weighs
abbrev pub weight_of : Bounds → Typed → ℕ
weight_of b p = program_weight b.limits p.types b.entry (lifted (program_shape p.program))

-- no more inputs than this are counted
abbrev pub most_counted : ℕ
most_counted = 1000000000000

-- how often a program is run at most, on 64 inputs at once
abbrev pub runs : Bounds → ℕ
runs b = div_ceil (min (length (inputs b.params)) most_counted) 64

-- a program that weighs too much by itself
abbrev pub is_heavy : Bounds → Typed → Bool
is_heavy b p = nat_lt 1000000 (weight_of b p)

-- the programs are too large to be run on all inputs: one is by itself, or all runs together are
abbrev pub AreTooLarge : Bounds → List Typed → Type 0
AreTooLarge b ps =
    (list_any (is_heavy b) ps ≡ true) ⊎ (500000000 < sum_by (weight_of b) ps * runs b)
