use Rattle.std.proofs.Common.{◌≡◌, ◌∙◌, ◌<◌, ◌≤◌, ◌^◌, ap, arith, length, None, reverse, subst, sym, true}
use Rattle.clause_base.specs.Formulas.{in_range}
use Rattle.sat_watch.specs.Trails.{Path, decided, literals_of, standing}
use Rattle.sat_watch.proofs.Room.{decided_few, room_left}
use Rattle.sat_watch.proofs.trail.Trail.decide.Goals as goal

pub overflow_add-level : goal.overflow_add-level
overflow_add-level c =
    let values = c.self.inside.values.items in
    let es = reverse c.self.inside.entries.items in
    let range = subst (λ (p : Path). in_range p.vars c.args.lit ≡ true) (sym c.self.view_is) c.requires.range in
    let unset = subst (λ (p : Path). standing (literals_of p.entries) c.args.lit ≡ None) (sym c.self.view_is) c.requires.unset in
    let room : length es < length values = room_left values es c.args.lit c.self.invariant.0 range unset in
    let few : length (decided es) ≤ length es = decided_few es in
    let level : c.level-level.result ≡ length (decided es) = c.level-level.ensures.value ∙ sym (ap (λ (p : Path). length (decided p.entries)) c.self.view_is) in
    let most : length values < 2 ^ 32 = c.self.invariant.3 in
    omega arith
