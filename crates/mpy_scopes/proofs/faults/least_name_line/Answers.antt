use Rattle.std.proofs.Common.{[], map, sym, ap, ◌∙◌}
use Rattle.mpy_tree.specs.View.{routine_of}
use Rattle.std.proofs.lemmas.List.{map-append}
use Rattle.mpy_tree.specs.Leasts.{lesser, least}
use Rattle.mpy_tree.specs.Names.{header_lines, name_lines_from}
use Rattle.mpy_scopes.specs.Seen.{name_of}
use Rattle.mpy_scopes.specs.Views.{scope_routine}
use Rattle.mpy_scopes.proofs.Places.{scoped}
use Rattle.mpy_scopes.proofs.Soonest.{names_more}
use Rattle.mpy_scopes.proofs.faults.least_name_line.Goals as goal

pub loop-scope-init : goal.loop-scope-init
loop-scope-init c =
    let p = map routine_of c.args.scopes.now.funcs.now in
    let items = c.deref-scope-items.result.now in
    ap (λ rs. least (name_lines_from p [] rs)) (scoped items c.args.scopes.now.funcs.now (ap (map (λ s. s.func.now)) c.deref-scope-items.ensures.value ∙ c.args.scopes.now.same))
    ∙ ap (λ before. least (name_lines_from p (map name_of before) (map scope_routine items))) (sym c.new-before.ensures.items)

pub loop-scope-preserved : goal.loop-scope-preserved
loop-scope-preserved c =
    c.loop-scope.invariant
    ∙ names_more scope_routine (map routine_of c.args.scopes.now.funcs.now) c.deref-scope-items.result.now (map name_of c.loop-scope.before.items) (map name_of c.push.new.self.items) c.loop-scope.scope-index c.scope-item.result c.loop-scope.first c.header_line-header.result c.in_ok-inside.inside c.sooner-first.result c.loop-scope-test.true c.scope-item.is
    (c.header_line-header.ensures ∙ ap (λ xs. least (header_lines (map name_of xs) (scope_routine c.scope-item.result))) c.deref.ensures.value)
    c.in_ok-inside.ensures
    (c.sooner-first.ensures ∙ ap (λ m. lesser m c.in_ok-inside.inside) c.sooner.ensures)
    (ap (map name_of) c.in_ok-push.ensures.items ∙ map-append name_of _ _)
