use Rattle.std.proofs.Common.{◌<◌, ◌≤◌, length, arith, sym, ◌∙◌}
use Rattle.std.proofs.lemmas.Grind.{common_steps}
use Rattle.mpy_limits.proofs.Functions.{functions_end, functions_more}
use Rattle.mpy_limits.proofs.limits.functions_limit.Goals as goal

pub loop-f-preserved : goal.loop-f-preserved
loop-f-preserved c =
    let h : c.loop-f.f-index < length c.args.funcs.now = grind (arith, common_steps) in
    c.loop-f.invariant ∙ functions_more c.loop-f.found c.function_limit-found.result c.args.funcs.now c.loop-f.f-index c.f-item.result h c.f-item.is c.function_limit-found.ensures

pub returns : goal.returns
returns c =
    let h : length c.args.funcs.now ≤ c.loop-f.f-index = grind (arith, common_steps) in
    sym (c.loop-f.invariant ∙ functions_end c.loop-f.found c.args.funcs.now c.loop-f.f-index h)
