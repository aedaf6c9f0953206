use Rattle.std.proofs.Common.{take}
use Rattle.cert_text.specs.Certificates.{WritesCases}
use Rattle.cert_text.proofs.writing.write_cases.Given as goal

abbrev pub invariant-loop-case : goal.invariant-loop-case
invariant-loop-case l = WritesCases l.fn.out.items l.out.items (take l.case-index l.cases)
