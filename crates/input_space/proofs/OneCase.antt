-- A text spells one case at most.
use Rattle.input_space.specs.CaseLaws.{OneCase}
use Rattle.input_space.specs.Cases.{SpellsValue}
use Rattle.input_space.specs.Pieces.{value_len}
use Rattle.input_space.proofs.Rows.{spells_one}
use Rattle.input_space.proofs.ValueExtents.{values_cut}

pub one_case : OneCase
one_case = spells_one SpellsValue value_len values_cut
