use Rattle.std.proofs.Common.{sym, ◌∙◌}
use Rattle.bit_lanes.proofs.TableBits.{reads_ones, reads_zero}
use Rattle.bit_lanes.proofs.lanes.LanesLogic.constant.Goals as goal

pub returns-then-b-clause-value : goal.returns-then-b-clause-value
returns-then-b-clause-value c vs = reads_ones vs ∙ sym c.if-b.true

pub returns-else-b-clause-value : goal.returns-else-b-clause-value
returns-else-b-clause-value c vs = reads_zero vs ∙ sym c.if-b.false
