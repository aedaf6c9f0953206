-- the values so far, and how the others are read after them
use Rattle.std.proofs.Common.{map}
use Rattle.std.specs.String.{string_bytes}
use Rattle.grade_top.proofs.ReadingLaws.{ReadsOn}
use Rattle.grade_top.proofs.values.read_values.Given as goal

abbrev pub invariant-loop-i : goal.invariant-loop-i
invariant-loop-i l = ReadsOn l.params (map string_bytes l.words) l.i l.values.items
