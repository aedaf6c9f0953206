-- How many clauses a log has at most.
use Rattle.std.specs.Prelude.{ℕ, ◌≤◌, ◌^◌, List, length}
use Rattle.clause_base.specs.declared.clause.Clause.{Clause}
use Rattle.clause_base.specs.declared.log.Step.{Step}
use Rattle.clause_base.specs.Logs.{IsFresh, IsNarrow}

-- three for each of the first d variables, which stands in a clause, or its negation, or neither
abbrev pub FreshLogsAreShort : Type 0
FreshLogsAreShort = (d : ℕ) (clauses : List Clause) (steps : List Step)
    → IsFresh clauses steps → IsNarrow d steps → length steps ≤ 3 ^ d
