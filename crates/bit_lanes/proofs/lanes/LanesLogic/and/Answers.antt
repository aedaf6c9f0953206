use Rattle.bit_lanes.proofs.TableBits.{reads_and}
use Rattle.bit_lanes.proofs.lanes.LanesLogic.and.Goals as goal

pub returns-clause-value : goal.returns-clause-value
returns-clause-value c vs = reads_and vs c.args.a c.args.b
