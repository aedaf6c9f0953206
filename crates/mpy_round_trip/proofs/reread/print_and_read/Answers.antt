use Rattle.std.proofs.Common.{◌∙◌}
use Rattle.mpy_tree.specs.View.{routines_of}
use Rattle.mpy_round_trip.proofs.Rereading.{read_same, read_within_limits, refused_for_limits}
use Rattle.mpy_round_trip.proofs.reread.print_and_read.Goals as goal

pub returns-clause-same : goal.returns-clause-same
returns-clause-same c = read_same (routines_of c.args.p.now) c.as_slice.result.now c.read_prog.result c.one_program.ensures.holds (c.as_slice.ensures.value ∙ c.in_ok-text.ensures) c.read_prog.ensures.read

pub returns-clause-read : goal.returns-clause-read
returns-clause-read c = read_within_limits (routines_of c.args.p.now) c.as_slice.result.now c.read_prog.result c.not_read_and_refused.ensures.holds (c.as_slice.ensures.value ∙ c.in_ok-text.ensures) c.read_prog.ensures.refused

pub returns-clause-limits : goal.returns-clause-limits
returns-clause-limits c = refused_for_limits (routines_of c.args.p.now) c.as_slice.result.now c.read_prog.result c.refused_for_a_limit.ensures.holds (c.as_slice.ensures.value ∙ c.in_ok-text.ensures) c.read_prog.ensures.refused
