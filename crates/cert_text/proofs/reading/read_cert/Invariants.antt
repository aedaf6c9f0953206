use Rattle.std.specs.Prelude.{length}
use Rattle.cert_text.proofs.Whole.{Reads}
use Rattle.cert_text.proofs.reading.read_cert.Given as goal

abbrev pub invariant-lines : goal.invariant-lines
invariant-lines l = Reads l.bytes l.rest l.line l.draft

abbrev pub decreases-lines : goal.decreases-lines
decreases-lines l = length l.rest
