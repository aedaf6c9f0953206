use Rattle.std.proofs.Common.{◌≡◌, drop}
use Rattle.search_certificates.specs.Places.{first_place, refutes}
use Rattle.search_certificates.proofs.places.place_of.Given as goal

abbrev pub invariant-loop-i : goal.invariant-loop-i
invariant-loop-i l = first_place (refutes l.wanted) l.i (drop l.i l.sessions) ≡ first_place (refutes l.wanted) 0 l.sessions
