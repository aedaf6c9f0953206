use Rattle.std.proofs.Common.{refl, sym, ap, ◌∙◌}
use Rattle.mpy_interp.proofs.Lookups.{set_known, set_unknown}
use Rattle.mpy_interp.proofs.frame.Frame.set.Goals as goal

pub returns-in-Some : goal.returns-in-Some
returns-in-Some c =
    let f = c.args.self.now in
    ap (λ s. record { locals = s; printed = f.printed })
    (set_known f.locals.items c.in-Some.k c.index_mut.result.now _ c.args.x.now c.args.v (sym c.place.ensures ∙ c.in-Some.is) c.index_mut.ensures.value refl refl)

pub returns-in_ok-push-in-None : goal.returns-in_ok-push-in-None
returns-in_ok-push-in-None c =
    let f = c.args.self.now in
    rw c.in_ok-push-in-None.ensures.items
    (ap (λ s. record { locals = s; printed = f.printed })
    (set_unknown c.args.self.now.locals.items _ c.args.x.now c.args.v (sym c.place.ensures ∙ c.in-None.is) refl refl))
