use Rattle.std.proofs.Common.{◌≡◌, drop, map}
use Rattle.cegis_loop.specs.OrderLaws.{last_ruled}
use Rattle.input_space.specs.Sessions.{told_of}
use Rattle.task_search.proofs.ruled.cases_ruled.Given as goal

abbrev pub invariant-loop-session : goal.invariant-loop-session
invariant-loop-session l =
    last_ruled l.ruled (map told_of (drop l.session-index l.sessions)) ≡ last_ruled 0 (map told_of l.sessions)
