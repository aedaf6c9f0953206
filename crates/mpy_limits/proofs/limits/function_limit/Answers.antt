use Rattle.std.proofs.Common.{ap, ◌∙◌}
use Rattle.mpy_tree.specs.Leasts.{lesser, least}
use Rattle.mpy_tree.specs.View.{block_of, routine_of}
use Rattle.mpy_limits.specs.Limits.{block_lines, is_large_header, line_if}
use Rattle.mpy_limits.proofs.Lines.{two_pieces}
use Rattle.mpy_limits.proofs.limits.function_limit.Goals as goal

pub returns : goal.returns
returns c =
    let f = c.args.f.now in
    two_pieces c.args.found c.with_line-found.result c.block_limit.result (line_if (is_large_header (routine_of f)) f.line) (block_lines 1 (block_of f.body)) (c.with_line-found.ensures ∙ ap (λ b. lesser c.args.found (least (line_if b f.line))) c.is_large_header.ensures) c.block_limit.ensures
