use Rattle.std.proofs.Common.{◌≡◌, refl, sym, ap, ◌∙◌, rules}
use Rattle.std.proofs.lemmas.Iterator.Adapters.{YieldsList-from_vec}
use Rattle.std.proofs.lemmas.Iterator.Consumers.{YieldsList-end}
use Rattle.mpy_tree.specs.Running.{bound}
use Rattle.mpy_interp.proofs.Lookups.{bound_more, bound_all, map_same}
use Rattle.mpy_interp.proofs.frame.bindings.Goals as goal

pub loop-value-preserved-in-Continue-1 : goal.loop-value-preserved-in-Continue-1
loop-value-preserved-in-Continue-1 c =
    rw c.in_ok-push.ensures.items
    (bound_more c.args.names.now c.loop-value.locals.items _ c.loop-value.yielded c.in-Some.value (search rules) (search rules) refl c.loop-value.invariant)

pub returns : goal.returns
returns c =
    let t = YieldsList-end (YieldsList-from_vec {s = c.into_iter-value-iterator.result} c.args.values.items (search rules) (search rules)) c.loop-value.yielded c.loop-value.value-iterator c.loop-value.yielded_by c.next.result c.next.new.self c.in-None.is c.next.ensures.steps in
    let all : c.loop-value.yielded ≡ c.args.values.items = sym (map_same c.loop-value.yielded) ∙ t.0 in
    bound_all c.args.names.now c.loop-value.locals.items c.loop-value.yielded c.loop-value.invariant
    ∙ ap (bound c.args.names.now) all
