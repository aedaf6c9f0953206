use Rattle.std.proofs.Common.{◌≡◌, ◌++◌, take}
use Rattle.cert_text.specs.Certificates.{sessions_lines}
use Rattle.step_lines.specs.Lines.{ended}
use Rattle.cert_text.proofs.writing.write_sessions.Given as goal

abbrev pub invariant-loop-s : goal.invariant-loop-s
invariant-loop-s l = l.out.items ≡ l.fn.out.items ++ ended (sessions_lines (take l.s-index l.sessions))
