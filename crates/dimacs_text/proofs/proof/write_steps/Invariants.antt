use Rattle.std.proofs.Common.{◌≡◌, ◌++◌, take, map}
use Rattle.step_lines.specs.LineForms.{step_line}
use Rattle.step_lines.specs.Lines.{ended}
use Rattle.dimacs_text.proofs.proof.write_steps.Given as goal

abbrev pub invariant-loop-i : goal.invariant-loop-i
invariant-loop-i l = l.out.items ≡ l.fn.out.items ++ ended (map step_line (take l.i l.steps))
