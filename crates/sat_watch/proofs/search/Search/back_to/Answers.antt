use Rattle.std.proofs.Common.{◌∙◌, List, subst, sym}
use Rattle.sat_watch.specs.declared.trail.Entry.{Entry}
use Rattle.sat_watch.specs.Searching.{IsSearch}
use Rattle.sat_watch.proofs.Backing.{search_back}
use Rattle.sat_watch.proofs.search.Search.back_to.Goals as goal

pub invariant_of-self : goal.invariant_of-self
invariant_of-self c =
    let inside = c.self.inside in
    let inv = c.self.invariant in
    let search = subst (λ (es : List Entry). IsSearch (record { base = inside.known; entries = es })) (sym c.back_to.ensures.entries) (search_back inside.known c.args.level inside.trail.entries inv.3) in
    (c.back_to.ensures.vars ∙ inv.0, inv.1, inv.2, search)
