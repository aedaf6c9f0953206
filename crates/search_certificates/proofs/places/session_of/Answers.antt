use Rattle.std.proofs.Common.{◌≡◌, ◌+◌, ◌-◌, ◌∙◌, ap, arith, drop, subst, sym, take}
use Rattle.search_certificates.specs.Places.{refutes}
use Rattle.search_certificates.proofs.FirstPlace.{IsAt, first_at, none_at}
use Rattle.search_certificates.proofs.places.session_of.Goals as goal

pub unreachable-requires : goal.unreachable-requires
unreachable-requires c =
    none_at (refutes c.args.wanted) 0 c.args.sessions.now (sym c.place_of.ensures.value ∙ c.in-None.is) c.requires.session c.requires.among c.requires.refutes_it

pub returns : goal.returns
returns c =
    let test = refutes c.args.wanted in
    let xs = c.args.sessions.now in
    let p = c.in-Some.place in
    let found = first_at test 0 p xs (sym c.place_of.ensures.value ∙ c.in-Some.is) in
    let is = found.1 in
    let same : found.0 ≡ p = omega arith in
    let at : IsAt test xs p = subst (IsAt test xs) same found.2 in
    let one : p + 1 - p ≡ 1 = omega arith in
    record {
      by = record { session = at.one; among = at.among; refutes_it = at.passes };
      alone = ap (λ n. take n (drop p xs)) one ∙ at.alone;
    }
