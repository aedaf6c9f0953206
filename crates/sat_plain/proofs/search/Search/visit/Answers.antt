use Rattle.std.proofs.Common.{◌≡◌, ◌∙◌, ◌∷◌, [], ap, subst}
use Rattle.clause_base.specs.Follows.{literals_at, open_literals}
use Rattle.sat_plain.specs.Trails.{literals_of}
use Rattle.sat_plain.specs.Searching.{State}
use Rattle.sat_plain.proofs.Covered.{covered_at}
use Rattle.sat_plain.proofs.Growth.{grows_one}
use Rattle.sat_plain.proofs.Literals.{literals_is}
use Rattle.sat_plain.proofs.Propagating.{watched_implied}
use Rattle.sat_plain.proofs.search.Search.visit.Goals as goal

pub look_over-requires : goal.look_over-requires
look_over-requires c =
    let f = c.self.inside.f.now in
    let clause = c.at-clause.result.now in
    rw (c.as_slice.ensures, c.self.invariant.0) (covered_at f.vars f.clauses c.args.place clause c.at-clause.ensures f.in_range)

pub returns-in-One-clause-grows : goal.returns-in-One-clause-grows
returns-in-One-clause-grows c = grows_one c.args.self.now c.imply.new.self _ c.imply.ensures

pub returns-in-One-clause-watched : goal.returns-in-One-clause-watched
returns-in-One-clause-watched c open' =
    let one = rw c.as_slice.ensures at c.in-One.ensures in
    let inside = c.self.inside in
    let at = literals_is inside.f.now.clauses c.args.place c.at-clause.result.now c.at-clause.ensures in
    let unit = subst (λ (s : State). open_literals (literals_of s.entries) (literals_at s.clauses c.args.place) ≡ c.in-One.lit ∷ []) c.self.view_is (ap (open_literals (literals_of inside.trail.entries)) at ∙ one.0) in
    watched_implied c.args.self.now c.imply.new.self c.args.place c.in-One.lit _ unit c.imply.ensures
