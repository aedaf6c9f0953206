use Rattle.std.proofs.Common.{◌≡◌, drop}
use Rattle.mpy_interp.specs.Frames.{looked}
use Rattle.mpy_interp.proofs.frame.Frame.local.Given as goal

-- the local isn't among those so far
abbrev pub invariant-loop-b : goal.invariant-loop-b
invariant-loop-b l = looked l.b-items l.x ≡ looked (drop l.b-index l.b-items) l.x
