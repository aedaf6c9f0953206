use Rattle.std.proofs.Common.{◌≡◌, ◌≤◌, ◌+◌, ◌-◌, length}
use Rattle.cegis_loop.specs.Searching.{IsProposing}
use Rattle.cegis_loop.proofs.search.search.Given as goal

-- no choice of a cost below `at_least` agrees on the kept inputs
abbrev pub invariant-loop-at_least : goal.invariant-loop-at_least
invariant-loop-at_least g l =
    let s = g.Q.Questions.space (g.Q.Questions.topic l.fn.q) in
    record {
      same : g.Q.Questions.topic l.q ≡ g.Q.Questions.topic l.fn.q;
      most : l.most ≡ s.most_cost;
      within : l.at_least ≤ l.most;
      proposing : IsProposing s (g.Q.Questions.seen l.q) l.at_least;
    }

-- the inputs that aren't kept, and the bounds that are left
abbrev pub decreases-loop-at_least : goal.decreases-loop-at_least
decreases-loop-at_least g l =
    let s = g.Q.Questions.space (g.Q.Questions.topic l.fn.q) in
    (length s.inputs - length (g.Q.Questions.seen l.q).kept) + (l.most - l.at_least)
