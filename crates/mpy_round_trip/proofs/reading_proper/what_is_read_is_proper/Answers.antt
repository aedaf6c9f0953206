use Rattle.mpy_round_trip.proofs.reading.ProperBlocks.{reads_proper}
use Rattle.mpy_round_trip.proofs.reading_proper.what_is_read_is_proper.Goals as goal

pub returns : goal.returns
returns c = record { holds = reads_proper c.lines_of_their_source.ensures.holds }
