use Rattle.std.proofs.Common.{◌∙◌}
use Rattle.sym_blocks.proofs.exec.exec_block.Goals as goal

pub returns-clause-value : goal.returns-clause-value
returns-clause-value g c vs m calls o b chosen at plain =
    c.in_ok-out.ensures.value vs m calls o b chosen (c.living-side.ensures.value vs ∙ at) plain
