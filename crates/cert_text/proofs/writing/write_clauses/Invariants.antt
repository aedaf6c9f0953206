use Rattle.std.proofs.Common.{◌≡◌, ◌++◌, take, map}
use Rattle.cert_text.specs.LineForms.{clause_line}
use Rattle.step_lines.specs.Lines.{ended}
use Rattle.cert_text.proofs.writing.write_clauses.Given as goal

abbrev pub invariant-loop-i : goal.invariant-loop-i
invariant-loop-i l = l.out.items ≡ l.fn.out.items ++ ended (map clause_line (take l.i l.clauses))
