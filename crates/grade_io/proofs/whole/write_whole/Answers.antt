-- A write adds the next bytes, and its calls come behind those before.
use Rattle.std.proofs.Common.{arith, length-drop, rules, refl, ◌∙◌}
use Rattle.grade_io.proofs.KnownBytes.{Appends-more}
use Rattle.grade_io.proofs.Turning.{moves, none_yet, write_stops}
use Rattle.grade_io.proofs.whole.write_whole.Goals as goal

pub write-init : goal.write-init
write-init g c = record { within = omega arith; written = search rules; still = refl; calls = none_yet _ }

pub write-preserved : goal.write-preserved
write-preserved g c = record {
  within = omega (arith, length-drop c.write.done c.args.bytes.now, c.in_ok-done.ensures.most);
  written = Appends-more _ _ _ c.args.bytes.now c.write.done _ c.write.invariant.written c.in_ok-done.ensures.ok;
  still = c.in_ok-done.ensures.faults ∙ c.write.invariant.still;
  calls = moves _ _ _ c.in_ok-done.field-0 c.write.invariant.calls c.in_ok-done.ensures.calls;
}

pub returns-in_err-done-clause-calls : goal.returns-in_err-done-clause-calls
returns-in_err-done-clause-calls g c =
    write_stops c.from_residual.result _ _ _ c.from_residual.ensures.0 c.write.invariant.calls c.in_err-done.ensures.calls
