use Rattle.std.proofs.Common.{◌≡◌, ◌++◌, List, subst, take-append-drop}
use Rattle.clause_base.specs.declared.lit.Lit.{Lit}
use Rattle.sat_watch.specs.Trails.{IsScan, literals_of}
use Rattle.sat_watch.proofs.Rounds.{scan_one}
use Rattle.sat_watch.proofs.trail.Trail.look_over.Goals as goal

pub returns-in-One : goal.returns-in-One
returns-in-One c =
    let known = literals_of c.args.self.now.entries in
    let lits = c.args.lits.now in
    let front = c.split_at.result.0.now in
    let back = c.split_at.result.1.now in
    let scan = c.look_on-in-One.result in
    let cut : front ++ back ≡ lits = rw (c.split_at.ensures.front, c.split_at.ensures.back) (take-append-drop c.if-from-lits.start lits) in
    subst (λ (ls : List Lit). IsScan known ls scan) cut (scan_one known front back c.in-One.lit scan c.in-One.ensures.0 c.in-One.ensures.1 c.look_on-in-One.ensures)
