use Rattle.bit_lanes.proofs.TableBits.{reads_xor, xor_small}
use Rattle.bit_lanes.proofs.lanes.LanesLogic.xor.Goals as goal

pub returns-clause-value : goal.returns-clause-value
returns-clause-value c vs = reads_xor vs c.args.a c.args.b

pub returns-clause-owned : goal.returns-clause-owned
returns-clause-owned c = xor_small c.args.a c.args.b c.requires.left c.requires.right
