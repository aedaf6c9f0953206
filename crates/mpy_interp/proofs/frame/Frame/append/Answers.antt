use Rattle.std.proofs.Common.{refl, sym, ◌∙◌}
use Rattle.mpy_tree.specs.Operations.{append}
use Rattle.mpy_interp.proofs.Lookups.{change_known, change_unset}
use Rattle.mpy_interp.proofs.frame.Frame.append.Goals as goal

pub returns-in-Some : goal.returns-in-Some
returns-in-Some c =
    change_known c.args.self.now.locals.items c.args.self.now.printed c.in-Some.k c.index_mut.result.now _ c.args.x.now c.args.line (λ v. append c.args.l.now v c.args.w.now) c.append_in.result (sym c.place.ensures ∙ c.in-Some.is) c.index_mut.ensures.value refl c.append_in.ensures

pub returns-in-None : goal.returns-in-None
returns-in-None c =
    rw c.faulted.ensures
    (change_unset c.args.self.now.locals.items c.args.self.now.printed c.args.x.now c.args.line (λ v. append c.args.l.now v c.args.w.now) (sym c.place.ensures ∙ c.in-None.is))
