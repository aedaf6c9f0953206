use Rattle.std.proofs.Common.{◌≡◌, drop}
use Rattle.bounds_reader.specs.Words.{carries_nothing}
use Rattle.bounds_reader.proofs.words.carries_nothing.Given as goal

abbrev pub invariant-loop-byte : goal.invariant-loop-byte
invariant-loop-byte l = carries_nothing (drop l.byte-index l.line) ≡ carries_nothing l.line
