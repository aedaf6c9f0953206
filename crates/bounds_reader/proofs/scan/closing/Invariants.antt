use Rattle.std.proofs.Common.{◌≡◌, ◌+◌, drop, false, option_map}
use Rattle.mpy_lexer.specs.Pieces.{closing}
use Rattle.bounds_reader.proofs.scan.closing.Given as goal

abbrev pub invariant-loop-i : goal.invariant-loop-i
invariant-loop-i l = option_map (λ n. l.i + n) (closing l.quote l.taken (drop l.i l.body)) ≡ closing l.quote false l.body
