-- Which rules pass a limit.
use Rattle.std.specs.Prelude.{ℕ, suc, Bool, false, ◌||◌, nat_lt, nat_le, List, [], ◌∷◌}
use Rattle.std.specs.Prelude.{Option, Some, None, if◌then◌else◌}
use Rattle.std.specs.List.{list_any}
use Rattle.mpy_tree.specs.Trees as kind
use Rattle.mpy_tree.specs.NameLengths.{is_long}
use Rattle.choice_tree.specs.Templates.{Correction, Template, made, exactly}
use Rattle.eml_match.specs.Resolutions.{depth}
use Rattle.eml_faults.specs.Sides.{nodes, set_count}

-- a node with a name of more than 40 bytes
abbrev pub is_long_node : Template → Bool
is_long_node (made (exactly (kind.Name x)) ps) = is_long x
is_long_node (made (exactly (kind.Call f)) ps) = is_long f
is_long_node _ = false

-- a side that is deeper than 32, or has a long name
abbrev pub is_large : Template → Bool
is_large p = nat_lt 32 (depth p) || list_any is_long_node (nodes p)

-- a cost outside 1 to 9
abbrev pub is_no_cost : ℕ → Bool
is_no_cost cost = nat_lt cost 1 || nat_lt 9 cost

-- The rule passes a limit: by its cost, its name, a side, or by more than 64 resolutions of the
-- sets of its right side.
abbrev pub passes_limit : Correction → Bool
passes_limit r =
    is_no_cost r.cost || is_long r.name || is_large r.left || is_large r.right
    || nat_lt 64 (set_count r.right)

-- The line of the first rule that passes a limit, or that stands behind 64 others, where so many
-- stand before.
abbrev pub limit_fault_behind : ℕ → List Correction → Option ℕ
limit_fault_behind before [] = None
limit_fault_behind before (r ∷ rs) =
    if nat_le 64 before || passes_limit r then Some r.line else limit_fault_behind (suc before) rs

abbrev pub limit_fault : List Correction → Option ℕ
limit_fault rs = limit_fault_behind 0 rs
