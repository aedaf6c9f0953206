use Rattle.std.proofs.Common.{◌∙◌}
use Rattle.sat_core.proofs.Explained.{may_follow, spares_walked}
use Rattle.sat_core.proofs.explain.explained_step.Goals as goal

pub returns-clause-may : goal.returns-clause-may
returns-clause-may c =
    let base = c.args.search.now.base in
    let es = c.args.search.now.entries in
    let ordered = rw (c.trail.ensures.vars, c.trail.ensures.entries) at c.entries-entries.ensures.ordered in
    let logged = rw c.known.ensures at c.logged.ensures in
    may_follow base es _ _ _ _ logged ordered c.trail.ensures.search.decisions c.requires.going c.in_ok-walked.ensures c.new.ensures (c.in_ok-from_slice.ensures ∙ c.as_slice.ensures.value)

pub returns-clause-spares : goal.returns-clause-spares
returns-clause-spares c =
    let base = c.args.search.now.base in
    let es = c.args.search.now.entries in
    let ordered = rw (c.trail.ensures.vars, c.trail.ensures.entries) at c.entries-entries.ensures.ordered in
    let levelled = rw c.trail.ensures.entries at c.entries-entries.ensures.levelled in
    rw c.new.ensures (spares_walked base es _ _ _ ordered levelled c.trail.ensures.search.decisions c.in_ok-walked.ensures)
