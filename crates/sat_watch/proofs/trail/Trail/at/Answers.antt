use Rattle.std.proofs.Common.{◌≡◌, ◌∙◌, ap, length, List, Option, ◌<◌, arith, refl, reverse, slice_get, Some, subst, sym, true}
use Rattle.std.specs.Prelude.{IsSomeAnd}
use Rattle.std.proofs.lemmas.List.{length-reverse, reverse-reverse}
use Rattle.std.proofs.lemmas.Option.{slice_get_read}
use Rattle.clause_base.specs.Formulas.{in_range}
use Rattle.sat_watch.specs.declared.trail.Entry.{Entry}
use Rattle.sat_watch.specs.Trails.{Path}
use Rattle.sat_watch.proofs.Ordered.{ordered_read}
use Rattle.sat_watch.proofs.trail.Trail.at.Goals as goal

inside : (c : goal.After-result-1) → c.args.i < length c.self.inside.entries.items
inside c =
    let same = ap (λ (p : Path). length p.entries) c.self.view_is in
    let long = length-reverse c.self.inside.entries.items in
    omega arith

pub returns-clause-value : goal.returns-clause-value
returns-clause-value c =
    let items = c.self.inside.entries.items in
    let i = c.args.i in
    let e : Entry = c.index.result.now in
    let at : slice_get items i ≡ Some e = slice_get_read items (length items) i e refl (inside c) c.index.ensures in
    let back : slice_get (reverse (reverse items)) i ≡ Some e = ap (λ (es : List Entry). slice_get es i) (reverse-reverse items) ∙ at in
    subst (λ (p : Path). IsSomeAnd (slice_get (reverse p.entries) i) (λ x. e.lit ≡ x.lit)) c.self.view_is
    (subst (λ (o : Option Entry). IsSomeAnd o (λ x. e.lit ≡ x.lit)) (sym back) refl)

pub returns-clause-range : goal.returns-clause-range
returns-clause-range c =
    let vars = length c.self.inside.values.items in
    let e : Entry = c.index.result.now in
    subst (λ (p : Path). in_range p.vars e.lit ≡ true) c.self.view_is
    (ap (λ (x : Entry). in_range vars x.lit) c.index.ensures ∙ ordered_read vars c.self.inside.entries.items c.args.i e c.self.invariant.0.ordered (inside c))
