use Rattle.mpy_laws.proofs.AlikeRuns.{no_lines_matter}
use Rattle.mpy_laws.proofs.lines.lines_do_not_matter.Goals as goal

pub returns : goal.returns
returns c = record { holds = no_lines_matter }
