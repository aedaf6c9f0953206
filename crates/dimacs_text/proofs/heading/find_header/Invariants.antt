use Rattle.std.specs.Prelude.{length}
use Rattle.dimacs_text.proofs.Heads.{Passes}
use Rattle.dimacs_text.proofs.heading.find_header.Given as goal

abbrev pub invariant-lines : goal.invariant-lines
invariant-lines l = Passes l.bytes l.rest l.line

abbrev pub decreases-lines : goal.decreases-lines
decreases-lines l = length l.rest
