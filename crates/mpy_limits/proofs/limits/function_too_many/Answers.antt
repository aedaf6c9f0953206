use Rattle.std.proofs.Common.{◌<◌, ◌≤◌, length, refl, sym, ap}
use Rattle.std.proofs.lemmas.Option.{slice_get_past, slice_get_read}
use Rattle.mpy_tree.specs.Leasts.{least}
use Rattle.mpy_limits.proofs.Functions.{function_at, no_function_at}
use Rattle.mpy_limits.proofs.limits.function_too_many.Goals as goal

pub returns-in-None : goal.returns-in-None
unfolding least
returns-in-None c =
    let fs = c.args.funcs.now in
    let h : length fs ≤ 8 = c.in-None.ensures.lookup.3 in
    sym (ap least (no_function_at fs 8 (slice_get_past fs 8 h)))

pub returns-in-Some : goal.returns-in-Some
unfolding least
returns-in-Some c =
    let fs = c.args.funcs.now in
    let h : 8 < length fs = c.in-Some.ensures.lookup.3.0 in
    sym (ap least (function_at fs 8 c.in-Some.f.now (slice_get_read fs (length fs) 8 c.in-Some.f.now refl h c.in-Some.ensures.lookup.1)))
