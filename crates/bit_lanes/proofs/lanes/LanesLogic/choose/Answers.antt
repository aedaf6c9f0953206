use Rattle.bit_lanes.proofs.TableBits.{choice_small, chosen}
use Rattle.bit_lanes.proofs.lanes.LanesLogic.choose.Goals as goal

pub returns-clause-value : goal.returns-clause-value
returns-clause-value c vs = chosen vs c.args.c c.args.yes c.args.no c.requires.test

pub returns-clause-owned : goal.returns-clause-owned
returns-clause-owned c = choice_small c.args.c c.args.yes c.args.no c.requires.yes c.requires.no
