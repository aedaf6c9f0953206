use Rattle.std.proofs.Common.{◌≡◌, take}
use Rattle.input_bits.specs.Cases.{cases}
use Rattle.input_bits.proofs.splitting.cases_count.Given as goal

abbrev pub invariant-loop-split : goal.invariant-loop-split
invariant-loop-split l = l.count ≡ cases (take l.split-index l.splits)
