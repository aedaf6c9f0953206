use Rattle.std.proofs.Common.{◌≡◌, ◌∙◌, ap, length, ◌<◌, ◌+◌, arith, reverse, subst, sym, true, ◌∷◌}
use Rattle.std.proofs.lemmas.List.{length-reverse}
use Rattle.clause_base.specs.Formulas.{in_range}
use Rattle.sat_plain.specs.declared.trail.Entry.{Entry}
use Rattle.sat_plain.specs.Trails.{Path, literals_of, oldest}
use Rattle.sat_plain.proofs.Ordered.{ordered_read}
use Rattle.sat_plain.proofs.Watching.{oldest_read}
use Rattle.sat_plain.proofs.trail.Trail.at.Goals as goal

inside : (c : goal.After-result-1) → c.args.i < length c.self.inside.entries.items
inside c =
    let same = ap (λ (p : Path). length p.entries) c.self.view_is in
    let long = length-reverse c.self.inside.entries.items in
    omega arith

pub returns-clause-value : goal.returns-clause-value
returns-clause-value c =
    let items = c.self.inside.entries.items in
    let i = c.args.i in
    let e : Entry = c.index.result.now in
    subst (λ (p : Path). oldest (i + 1) (literals_of p.entries) ≡ e.lit ∷ oldest i (literals_of p.entries)) c.self.view_is
    (oldest_read items i e (inside c) ∙ ap (λ (x : Entry). x.lit ∷ oldest i (literals_of (reverse items))) (sym c.index.ensures))

pub returns-clause-range : goal.returns-clause-range
returns-clause-range c =
    let vars = length c.self.inside.values.items in
    let e : Entry = c.index.result.now in
    subst (λ (p : Path). in_range p.vars e.lit ≡ true) c.self.view_is
    (ap (λ (x : Entry). in_range vars x.lit) c.index.ensures ∙ ordered_read vars c.self.inside.entries.items c.args.i e c.self.invariant.0.ordered (inside c))
