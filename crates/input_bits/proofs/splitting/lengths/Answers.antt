use Rattle.std.proofs.Common.{◌+◌, ◌-◌, arith}
use Rattle.input_bits.proofs.CaseLaws.{covered, whole}
use Rattle.input_bits.proofs.splitting.lengths.Goals as goal

pub returns-then-most-least-clause-covers : goal.returns-then-most-least-clause-covers
returns-then-most-least-clause-covers c n least most = whole c.undivided.result n c.undivided.ensures

pub returns-clause-covers : goal.returns-clause-covers
returns-clause-covers c n least most = covered c.args.least (c.args.most - c.args.least + 1) n least (omega arith)
