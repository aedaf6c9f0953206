use Rattle.std.proofs.Common.{◌≡◌, drop, false}
use Rattle.mpy_lexer.specs.Pieces.{has_wrong_escape}
use Rattle.mpy_lexer.proofs.pieces.has_wrong_escape.Given as goal

abbrev pub invariant-loop-byte : goal.invariant-loop-byte
invariant-loop-byte l = has_wrong_escape l.taken (drop l.byte-index l.text) ≡ has_wrong_escape false l.text
