use Rattle.std.proofs.Common.{◌≡◌, ◌∙◌, ◌∷◌, [], ◌<◌, length, ap, subst, sym}
use Rattle.clause_base.specs.Follows.{literals_at, open_literals}
use Rattle.clause_base.specs.Formulas.{in_range}
use Rattle.sat_plain.specs.Trails.{Path, literals_of}
use Rattle.sat_plain.specs.Searching.{IsSearch, State}
use Rattle.sat_plain.proofs.Covered.{literals_in_range}
use Rattle.sat_plain.proofs.Growth.{one_in_range}
use Rattle.sat_plain.proofs.Taking.{search_implied}
use Rattle.sat_plain.proofs.search.Search.imply.Goals as goal

pub push-requires-clause-range : goal.push-requires-clause-range
push-requires-clause-range c =
    let inside = c.self.inside in
    let unit = subst (λ (s : State). open_literals (literals_of s.entries) (literals_at s.clauses c.args.place) ≡ c.args.lit ∷ []) (sym c.self.view_is) c.requires.unit in
    let range = literals_in_range inside.f.now.vars inside.f.now.clauses c.args.place inside.f.now.in_range in
    ap (λ v. in_range v c.args.lit) c.self.invariant.0 ∙ one_in_range inside.f.now.vars (literals_of inside.trail.entries) _ c.args.lit range unit

pub invariant_of-self : goal.invariant_of-self
invariant_of-self c =
    let inside = c.self.inside in
    let s : State = record { vars = inside.f.now.vars; clauses = inside.f.now.clauses; index = inside.occurrences; steps = inside.steps; entries = inside.trail.entries } in
    let unit = subst (λ (s : State). open_literals (literals_of s.entries) (literals_at s.clauses c.args.place) ≡ c.args.lit ∷ []) (sym c.self.view_is) c.requires.unit in
    let within = subst (λ (s : State). c.args.place < length s.clauses) (sym c.self.view_is) c.requires.within in (
      ap (λ (p : Path). p.vars) c.push.ensures ∙ c.self.invariant.0,
      subst (λ (p : Path). IsSearch (record s { entries = p.entries })) (sym c.push.ensures) (search_implied s c.args.lit c.args.place c.self.invariant.1 within unit),
    )
