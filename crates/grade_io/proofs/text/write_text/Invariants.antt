-- The front that was written so far, with no fault, by puts that each were handed all that was
-- left; the bytes that are left fall.
use Rattle.std.proofs.Common.{◌≡◌, ◌-◌, ◌≤◌, ℕ, length, take, Some}
use Rattle.grade_io.specs.Devices.{added}
use Rattle.grade_io.specs.Plans.{Plan}
use Rattle.grade_io.proofs.Putting.{SoFar}
use Rattle.grade_io.proofs.text.write_text.Given as goal

abbrev pub invariant-put : goal.invariant-put
invariant-put g l = record {
  within : l.done ≤ length l.text;
  written : (g.K.Sink.seen l.out).written
      ≡ added (g.K.Sink.seen l.fn.out).written (take l.done l.text);
  still : (g.K.Sink.seen l.out).faults ≡ (g.K.Sink.seen l.fn.out).faults;
  puts : (p : Plan) (share : ℕ → ℕ) → (g.K.Sink.seen l.fn.out).plan ≡ Some p
      → (g.K.Sink.seen l.fn.out).share ≡ Some share
      → SoFar share p (length l.text) l.done (g.K.Sink.seen l.out);
}

abbrev pub decreases-put : goal.decreases-put
decreases-put g l = length l.text - l.done
