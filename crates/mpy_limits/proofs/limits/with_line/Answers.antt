use Rattle.std.proofs.Common.{rules}
use Rattle.mpy_tree.specs.Leasts.{least}
use Rattle.mpy_tree.proofs.Leasts.{lesser-none}
use Rattle.mpy_limits.proofs.limits.with_line.Goals as goal

pub returns-then-not-is_large : goal.returns-then-not-is_large
unfolding least
returns-then-not-is_large c = search (rules, lesser-none)

pub returns-in-None : goal.returns-in-None
unfolding least
returns-in-None c = search rules

pub returns-in-Some : goal.returns-in-Some
unfolding least
returns-in-Some c = search rules
