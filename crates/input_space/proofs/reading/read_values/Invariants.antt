use Rattle.std.proofs.Common.{length}
use Rattle.input_space.specs.Cases.{SpellsValue}
use Rattle.input_space.specs.Pieces.{value_len}
use Rattle.input_space.proofs.Rows.{Goes}
use Rattle.input_space.proofs.ValueExtents.{values_cut}
use Rattle.input_space.proofs.reading.read_values.Given as goal

abbrev pub invariant-pieces : goal.invariant-pieces
invariant-pieces l = Goes SpellsValue value_len values_cut l.text l.values.items l.rest

abbrev pub decreases-pieces : goal.decreases-pieces
decreases-pieces l = length l.rest
