use Rattle.std.proofs.Common.{map, sym, ap, ◌∙◌}
use Rattle.std.specs.List.{flat_map}
use Rattle.mpy_tree.specs.Leasts.{lesser, least}
use Rattle.mpy_tree.specs.View.{routine_of}
use Rattle.mpy_limits.specs.Limits.{statements}
use Rattle.mpy_limits.proofs.Functions.{member_at, no_member_at}
use Rattle.mpy_tree.proofs.Leasts.{lesser_of_nil}
use Rattle.mpy_limits.proofs.limits.statement_too_many.Goals as goal

pub returns-in-Ok : goal.returns-in-Ok
returns-in-Ok c =
    let all = flat_map (λ r. statements r.body) (map routine_of c.args.funcs.now) in
    c.with_line.ensures ∙ ap (λ xs. lesser c.args.found (least xs)) (sym (member_at all 200 c.in-Ok.line c.in-Ok.ensures))

pub returns-in-Err : goal.returns-in-Err
returns-in-Err c =
    let all = flat_map (λ r. statements r.body) (map routine_of c.args.funcs.now) in
    sym (ap (λ xs. lesser c.args.found (least xs)) (no_member_at all 200 _ c.in-Err.ensures) ∙ lesser_of_nil c.args.found)
