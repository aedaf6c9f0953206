use Rattle.std.proofs.Common.{◌-◌, length}
use Rattle.bit_lists.proofs.ranges.range.Given as goal

abbrev pub ghost-listed : goal.ghost-listed
ghost-listed g a = length a.first.number - 1
