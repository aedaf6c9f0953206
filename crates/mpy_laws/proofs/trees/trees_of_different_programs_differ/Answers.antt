use Rattle.mpy_laws.proofs.BackFromTrees.{trees_differ}
use Rattle.mpy_laws.proofs.trees.trees_of_different_programs_differ.Goals as goal

pub returns : goal.returns
returns c = record { holds = trees_differ }
