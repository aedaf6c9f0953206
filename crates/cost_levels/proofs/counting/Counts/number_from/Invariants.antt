use Rattle.std.proofs.Common.{ℕ, List}
use Rattle.cost_levels.specs.declared.rows.Row.{Row}
use Rattle.cost_levels.specs.Counts.{CountsSoFar}
use Rattle.cost_levels.specs.Plans.{Plan, Ways, at_pick}
use Rattle.cost_levels.specs.Rows.{Shows, ShowWays}
use Rattle.cost_levels.proofs.Numbered.{Counting}
use Rattle.cost_levels.proofs.counting.Counts.number_from.Given as goal

-- the base and the members so far are counted
abbrev pub invariant-loop-way : goal.invariant-loop-way
invariant-loop-way l =
    (rows : List Row) (base : Plan) (ws : Ways) → CountsSoFar rows l.self
    → Shows rows l.row.base base → ((most : ℕ) × ShowWays rows most l.row.others.items ws)
    → Counting rows l.way-items l.way-index l.cost l.number (at_pick l.row.number base ws)
