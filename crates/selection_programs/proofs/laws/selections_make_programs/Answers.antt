use Rattle.selection_programs.proofs.Programs.{program_made}
use Rattle.selection_programs.proofs.laws.selections_make_programs.Goals as goal

pub returns : goal.returns
returns c = program_made
