use Rattle.std.specs.Char.{is_ascii_digit}
use Rattle.bounds_reader.proofs.Digits.{prefix_passes}
use Rattle.bounds_reader.proofs.scan.numeral_at.Goals as goal

pub numeral_of-requires : goal.numeral_of-requires
numeral_of-requires c =
    rw (c.split_at.ensures.front, c.digits_len.ensures.same) (prefix_passes is_ascii_digit c.args.text.now)
