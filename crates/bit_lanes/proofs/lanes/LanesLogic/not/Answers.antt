use Rattle.bit_lanes.proofs.TableBits.{reads_not}
use Rattle.bit_lanes.proofs.lanes.LanesLogic.not.Goals as goal

pub returns-clause-value : goal.returns-clause-value
returns-clause-value c vs = reads_not vs c.args.a c.requires
