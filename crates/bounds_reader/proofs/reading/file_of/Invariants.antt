use Rattle.std.proofs.Common.{take, map}
use Rattle.bounds_reader.proofs.FileLaws.{IsFileOf}
use Rattle.bounds_reader.proofs.reading.file_of.Given as goal

abbrev pub invariant-loop-i : goal.invariant-loop-i
invariant-loop-i l = IsFileOf (map (λ x. x.now) (take l.i l.lines)) l.file
