use Rattle.std.proofs.Common.{◌++◌, map, sym, ap, ◌∙◌}
use Rattle.mpy_tree.specs.Faults.{slots_from}
use Rattle.mpy_scopes.specs.Views.{scope_routine}
use Rattle.mpy_types.specs.Views.{place_of}
use Rattle.mpy_scopes.proofs.Places.{scoped}
use Rattle.mpy_types.proofs.slots.slots.Goals as goal

pub loop-i-init : goal.loop-i-init
loop-i-init c =
    let items = c.deref-scope-items.result.now in
    ap (slots_from 0) (scoped items c.args.scopes.now.funcs.now (ap (map (λ s. s.func.now)) c.deref-scope-items.ensures.value ∙ c.args.scopes.now.same))
    ∙ ap (λ out. map place_of out ++ slots_from 0 (map scope_routine items)) (sym c.new-out.ensures.items)
