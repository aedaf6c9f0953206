use Rattle.std.proofs.Common.{◌≡◌, ◌+◌, drop, false}
use Rattle.input_space.specs.Pieces.{closed_len}
use Rattle.input_space.proofs.pieces.closed_len.Given as goal

abbrev pub invariant-loop-i : goal.invariant-loop-i
invariant-loop-i l = l.i + closed_len l.quote l.escaped (drop l.i l.text) ≡ closed_len l.quote false l.text
