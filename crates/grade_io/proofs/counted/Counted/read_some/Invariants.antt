-- The buffer keeps its length; a read that was interrupted took nothing, and is no fault.
use Rattle.std.proofs.Common.{◌≡◌, length}
use Rattle.std.specs.Io.KnownBytes.{Keeps}
use Rattle.grade_io.specs.Counting.{faults_of, inner_of}
use Rattle.grade_io.specs.Devices.{added}
use Rattle.grade_io.specs.Turns.{interrupted}
use Rattle.grade_io.proofs.counted.Counted.read_some.Given as goal

abbrev pub invariant-loop-tries : goal.invariant-loop-tries
invariant-loop-tries g l = record {
  size : length l.buf ≡ length l.fn.buf;
  kept : Keeps (g.F.Input.remaining (inner_of l.fn.self)) (g.F.Input.remaining (inner_of l.self));
  still : faults_of l.self ≡ faults_of l.fn.self;
  turns : g.F.Input.turns (inner_of l.self)
      ≡ added (g.F.Input.turns (inner_of l.fn.self)) (interrupted l._tries);
}
