use Rattle.std.proofs.Common.{◌≡◌, ◌++◌, map, drop}
use Rattle.mpy_expressions.specs.Terminals.{terminal_of}
use Rattle.mpy_expressions.proofs.terminals.terminals_of.Given as goal

-- those so far, and then those of the tokens that are left
abbrev pub invariant-loop-token : goal.invariant-loop-token
invariant-loop-token l = map terminal_of l.tokens ≡ l.seen.items ++ map terminal_of (drop l.token-index l.tokens)
