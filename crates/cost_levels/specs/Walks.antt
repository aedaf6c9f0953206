-- A table that is walked by numbers.
use Rattle.cost_levels.specs.declared.listing.Walk.{Walk}
use Rattle.cost_levels.specs.Counts.{AreCounts}

-- the numbers are those of its table
abbrev pub IsCounted : Walk → Type 0
IsCounted w = AreCounts w.rows.now w.counts.now
