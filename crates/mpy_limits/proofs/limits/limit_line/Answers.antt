use Rattle.std.proofs.Common.{map, ap, ◌∙◌}
use Rattle.mpy_tree.specs.Leasts.{least}
use Rattle.mpy_tree.specs.View.{routine_of}
use Rattle.mpy_limits.specs.Limits.{limit_lines}
use Rattle.mpy_limits.proofs.Functions.{all_limits}
use Rattle.mpy_limits.proofs.limits.limit_line.Goals as goal

pub returns : goal.returns
returns c =
    all_limits c.as_slice-funcs.result.now c.function_too_many.result c.statement_too_many-found.result c.functions_limit.result c.function_too_many.ensures c.statement_too_many-found.ensures c.functions_limit.ensures
    ∙ ap (λ fs. least (limit_lines (map routine_of fs))) c.as_slice-funcs.ensures.value
