use Rattle.std.proofs.Common.{◌≡◌, ◌≤◌, ◌+◌, ◌*◌, drop}
use Rattle.tree_weights.specs.Weights.{locals_weight}
use Rattle.tree_weights.proofs.locals.locals_weight.Given as goal

-- what the facts so far weigh, and those that are left
abbrev pub invariant-loop-i : goal.invariant-loop-i
invariant-loop-i l = record {
  whole : locals_weight l.limits l.number l.facts
      ≡ l.total + locals_weight l.limits l.number (drop l.i l.facts);
  small : l.total ≤ 262 * l.i;
}
