use Rattle.std.proofs.Common.{◌≡◌, ◌++◌, length}
use Rattle.eml_sides.specs.RuleTerminals.{terminals_within}
use Rattle.eml_sides.proofs.sights.rule_terminals.Given as goal

-- the terminals so far, and then those of the rest
abbrev pub invariant-loop-seen : goal.invariant-loop-seen
invariant-loop-seen l =
    terminals_within (length l.tokens) l.tokens
    ≡ l.seen.items ++ terminals_within (length l.rest) l.rest

abbrev pub decreases-loop-seen : goal.decreases-loop-seen
decreases-loop-seen l = length l.rest
