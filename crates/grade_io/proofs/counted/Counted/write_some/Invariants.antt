-- A write that was interrupted added nothing, and is no fault.
use Rattle.std.proofs.Common.{◌≡◌}
use Rattle.std.specs.Io.KnownBytes.{Keeps}
use Rattle.grade_io.specs.Counting.{faults_of, inner_of}
use Rattle.grade_io.specs.Devices.{added}
use Rattle.grade_io.specs.Turns.{interrupted}
use Rattle.grade_io.proofs.counted.Counted.write_some.Given as goal

abbrev pub invariant-loop-tries : goal.invariant-loop-tries
invariant-loop-tries g l = record {
  kept : Keeps (g.W.Output.contents (inner_of l.fn.self)) (g.W.Output.contents (inner_of l.self));
  still : faults_of l.self ≡ faults_of l.fn.self;
  turns : g.W.Output.turns (inner_of l.self)
      ≡ added (g.W.Output.turns (inner_of l.fn.self)) (interrupted l._tries);
}
