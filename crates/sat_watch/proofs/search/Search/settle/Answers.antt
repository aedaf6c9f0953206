use Rattle.std.proofs.Common.{ap, subst}
use Rattle.sat_watch.specs.Searching.{Grows, State}
use Rattle.sat_watch.specs.Trails.{Path}
use Rattle.sat_watch.proofs.Growing.{grows_one}
use Rattle.sat_watch.proofs.search.Search.settle.Goals as goal

pub returns-in-Some-clause-grows : goal.returns-in-Some-clause-grows
returns-in-Some-clause-grows c =
    let new = c.imply.new.self.entries in
    subst (λ (s : State). Grows s.entries new) c.self.view_is (grows_one c.self.inside.trail.entries _ new (ap (λ (p : Path). p.entries) c.imply.ensures))

pub returns-in-None-clause-grows : goal.returns-in-None-clause-grows
returns-in-None-clause-grows c =
    let new = c.decide.new.self.entries in
    subst (λ (s : State). Grows s.entries new) c.self.view_is (grows_one c.self.inside.trail.entries _ new (ap (λ (p : Path). p.entries) c.decide.ensures))
