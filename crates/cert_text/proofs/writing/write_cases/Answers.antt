use Rattle.std.proofs.Common.{arith}
use Rattle.cert_text.proofs.Written.{next_case}
use Rattle.cert_text.proofs.writing.write_cases.Goals as goal

pub loop-case-preserved : goal.loop-case-preserved
loop-case-preserved c = next_case c.args.out.now.items c.loop-case.out.items c.write_case.new.out.items c.args.cases.now c.loop-case.case-index c.case-item.result (omega (arith, c.loop-case-test.true)) c.case-item.is c.loop-case.invariant c.in_ok-write_case.ensures
