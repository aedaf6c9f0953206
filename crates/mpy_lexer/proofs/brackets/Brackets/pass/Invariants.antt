use Rattle.std.proofs.Common.{◌≡◌, ◌||◌, drop}
use Rattle.mpy_lexer.specs.Brackets.{open_after, has_unmatched}
use Rattle.mpy_lexer.proofs.brackets.Brackets.pass.Given as goal

abbrev pub invariant-loop-token : goal.invariant-loop-token
invariant-loop-token l = record {
  opened : open_after l.line l.self (drop l.token-index l.tokens) ≡ open_after l.line l.fn.self l.tokens;
  unmatched : (l.unmatched || has_unmatched l.line l.self (drop l.token-index l.tokens)) ≡ has_unmatched l.line l.fn.self l.tokens;
}
