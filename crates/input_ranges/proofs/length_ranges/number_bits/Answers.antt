use Rattle.std.proofs.Common.{◌^◌}
use Rattle.input_ranges.proofs.Between.{all_low}
use Rattle.input_ranges.proofs.length_ranges.number_bits.Goals as goal

pub returns-clause-value : goal.returns-clause-value
returns-clause-value g c vs h = all_low (2 ^ c.args.count) _ _ c.args.number (c.in_ok-bits.ensures.value vs) h
