use Rattle.std.proofs.Common.{◌≡◌, ◌*◌, ◌<◌, ◌≤◌, ℕ, List, arith, get_or, length, subst, sym}
use Rattle.std.proofs.lemmas.List.Elements.{All-get_or}
use Rattle.sat_watch.specs.declared.watches.Watch.{Watch}
use Rattle.sat_watch.specs.Watching.{AreWatches, Sizes}
use Rattle.sat_watch.proofs.watches.Watches.other.Goals as goal

-- the other item is there
there : (vars clauses item place : ℕ) (firsts : List ℕ) (items : List Watch) → AreWatches vars clauses firsts items → ((n : ℕ) → item ≤ 2 * n → place < 2 * n) → item ≤ 2 * clauses → place < length items
there vars clauses item place firsts items are other within =
    let two : length items ≡ 2 * clauses = are.two in
    let below : place < 2 * clauses = other clauses within in
    omega arith

pub index-requires : goal.index-requires
index-requires c =
    let inside = c.self.inside in
    let within = subst (λ (z : Sizes). c.args.item ≤ 2 * z.clauses) (sym c.self.view_is) c.requires.within in
    let fits : c.other_place.result < length inside.items.items = there inside.vars inside.clauses c.args.item c.other_place.result inside.heads.items inside.items.items c.self.invariant c.other_place.ensures within in
    omega arith

pub returns : goal.returns
returns c =
    let inside = c.self.inside in
    let items = inside.items.items in
    let place = c.other_place.result in
    let found : Watch = c.index.result.now in
    let within = subst (λ (z : Sizes). c.args.item ≤ 2 * z.clauses) (sym c.self.view_is) c.requires.within in
    let fits = there inside.vars inside.clauses c.args.item place inside.heads.items items c.self.invariant c.other_place.ensures within in
    let low : (get_or items place found).lit.var ≤ inside.vars = All-get_or (λ w. w.lit.var ≤ inside.vars) items place found fits c.self.invariant.lits in
    subst (λ (z : Sizes). found.lit.var ≤ z.vars) c.self.view_is (subst (λ (w : Watch). w.lit.var ≤ inside.vars) (sym c.index.ensures) low)
