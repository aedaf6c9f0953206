use Rattle.std.proofs.Common.{◌<◌, ◌≤◌, length, arith, sym, ◌∙◌}
use Rattle.std.proofs.lemmas.Grind.{common_steps}
use Rattle.mpy_limits.proofs.Functions.{behind_all_functions, behind_next_function, found_in_next_function}
use Rattle.mpy_limits.proofs.limits.statement_of_functions.Goals as goal

pub returns-in-Ok : goal.returns-in-Ok
returns-in-Ok c =
    let h : c.loop-f.f-index < length c.args.funcs.now = grind (arith, common_steps) in
    sym (c.loop-f.invariant ∙ found_in_next_function c.args.funcs.now c.loop-f.f-index c.f-item.result c.loop-f.left c.in-Ok.line h c.f-item.is c.in-Ok.ensures)

pub loop-f-preserved : goal.loop-f-preserved
loop-f-preserved c =
    let h : c.loop-f.f-index < length c.args.funcs.now = grind (arith, common_steps) in
    c.loop-f.invariant ∙ behind_next_function c.args.funcs.now c.loop-f.f-index c.f-item.result c.loop-f.left c.in-Err.after h c.f-item.is c.in-Err.ensures

pub returns : goal.returns
returns c =
    let h : length c.args.funcs.now ≤ c.loop-f.f-index = grind (arith, common_steps) in
    sym (c.loop-f.invariant ∙ behind_all_functions c.args.funcs.now c.loop-f.f-index c.loop-f.left h)
