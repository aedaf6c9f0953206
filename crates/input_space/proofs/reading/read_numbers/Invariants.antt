use Rattle.std.proofs.Common.{length}
use Rattle.input_space.specs.Cases.{SpellsNumber}
use Rattle.input_space.specs.Pieces.{number_len}
use Rattle.input_space.proofs.Extents.{numbers_cut}
use Rattle.input_space.proofs.Rows.{Goes}
use Rattle.input_space.proofs.reading.read_numbers.Given as goal

abbrev pub invariant-pieces : goal.invariant-pieces
invariant-pieces l = Goes SpellsNumber number_len numbers_cut l.text l.numbers.items l.rest

abbrev pub decreases-pieces : goal.decreases-pieces
decreases-pieces l = length l.rest
