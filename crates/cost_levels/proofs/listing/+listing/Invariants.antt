use Rattle.std.proofs.Common.{◌≡◌, ◌+◌, ◌-◌, ◌*◌}
use Rattle.cost_levels.specs.Plans.{Plan}
use Rattle.cost_levels.specs.Rows.{Shows}
use Rattle.cost_levels.proofs.Walked.{Going}
use Rattle.cost_levels.proofs.listing.+listing.Given as goal

abbrev pub decreases-push_listed : goal.decreases-push_listed
decreases-push_listed l = 2 * l.entry

abbrev pub decreases-push_chosen : goal.decreases-push_chosen
decreases-push_chosen l = 2 * l.way.next + 1

-- what was appended so far, and what the members that are left have, are all that is listed
abbrev pub invariant-push_listed-loop-i : goal.invariant-push_listed-loop-i
invariant-push_listed-loop-i l = record {
  chosen : l.chosen.items ≡ l.fn.chosen.items;
  going : (p : Plan) → Shows l.fn.walk.rows.now l.fn.entry p
      → Going l.fn.walk.rows.now l.row.number (l.fn.entry - 1) l.way-items l.i l.fn.left
      l.fn.chosen.items l.fn.out.items l.out.items p;
}
