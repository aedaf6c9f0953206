use Rattle.std.proofs.Common.{◌∙◌, ap, sym}
use Rattle.clause_base.specs.Follows.{open_literals}
use Rattle.clause_base.specs.Formulas.{in_range}
use Rattle.sat_watch.specs.Trails.{Path, is_among, literals_of}
use Rattle.sat_watch.proofs.Growing.{grows_one}
use Rattle.sat_watch.proofs.Visiting.{covered_among, covered_one}
use Rattle.sat_watch.proofs.propagate.visit.Goals as goal

pub imply-requires-clause-range : goal.imply-requires-clause-range
imply-requires-clause-range c =
    let known = literals_of c.args.trail.now.entries in
    let lits = c.at-clause.result.now.lits in
    let one = ap (open_literals known) (sym c.as_slice.ensures) ∙ c.in-One.ensures.0 in
    ap (λ v. in_range v c.in-One.lit) c.requires.vars ∙ covered_one c.args.known.now.vars known lits c.in-One.lit c.at-clause.ensures.covered one

pub returns-in-One-clause-grows : goal.returns-in-One-clause-grows
returns-in-One-clause-grows c = grows_one c.args.trail.now.entries _ c.imply.new.self.entries (ap (λ (p : Path). p.entries) c.imply.ensures)

pub returns-in-Other-clause-seen : goal.returns-in-Other-clause-seen
returns-in-Other-clause-seen c =
    let l = c.in-Other.lit in
    covered_among c.args.known.now.vars c.at-clause.result.now.lits l c.at-clause.ensures.covered (ap (is_among l) (sym c.as_slice.ensures) ∙ c.in-Other.ensures.1)
