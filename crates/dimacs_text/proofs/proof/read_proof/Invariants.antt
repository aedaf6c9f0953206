use Rattle.std.specs.Prelude.{length}
use Rattle.dimacs_text.proofs.ProofLines.{Logged}
use Rattle.dimacs_text.proofs.proof.read_proof.Given as goal

abbrev pub invariant-lines : goal.invariant-lines
invariant-lines l = Logged l.known l.vars l.bytes l.rest l.line l.steps

abbrev pub decreases-lines : goal.decreases-lines
decreases-lines l = length l.rest
