use Rattle.std.proofs.Common.{map, ap, ◌∙◌}
use Rattle.mpy_tree.specs.View.{routine_of}
use Rattle.mpy_tree.specs.Names.{has_name_fault}
use Rattle.mpy_tree.specs.Locals.{locals}
use Rattle.mpy_scopes.specs.Seen.{site_of}
use Rattle.mpy_scopes.proofs.Soonest.{lines_more}
use Rattle.mpy_scopes.proofs.faults.name_line_in.Goals as goal

pub loop-s-preserved : goal.loop-s-preserved
loop-s-preserved c =
    c.loop-s.invariant
    ∙ lines_more (has_name_fault (map routine_of c.args.funcs.now) (locals (routine_of c.args.scope.now.func.now))) site_of c.deref-s-items.result.now c.loop-s.s-index c.s-item.result c.in_ok-fault.fault c.loop-s.first c.sooner_if-first.result c.loop-s-test.true c.s-item.is
    (c.in_ok-fault.ensures ∙ ap (λ xs. has_name_fault (map routine_of c.args.funcs.now) xs (site_of c.s-item.result)) c.args.scope.now.named)
    (c.sooner_if-first.ensures ∙ cc)
