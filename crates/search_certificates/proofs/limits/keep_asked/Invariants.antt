use Rattle.std.proofs.Common.{take}
use Rattle.std.specs.Prelude.{All}
use Rattle.search_certificates.specs.Certified.{KeepsAsked}
use Rattle.search_certificates.proofs.limits.keep_asked.Given as goal

abbrev pub invariant-loop-session : goal.invariant-loop-session
invariant-loop-session l = All (λ x. KeepsAsked x.query) (take l.session-index l.sessions)
