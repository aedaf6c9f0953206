-- up to the place the clauses are one
use Rattle.std.proofs.Common.{◌≡◌, ◌+◌, ◌∙◌, arith, refl, subst, sym}
use Rattle.certificate_judge.specs.Places.{DifferAt}
use Rattle.certificate_judge.proofs.DifferenceLaws.{lengths_differ, more_same}
use Rattle.certificate_judge.proofs.difference.difference.Goals as goal

pub loop-i-preserved : goal.loop-i-preserved
loop-i-preserved c =
    more_same c.args.f.now.clauses c.args.g.now.clauses c.loop-i.i c.at.result.now c.at-in-loop-i.result.now c.at.ensures c.at-in-loop-i.ensures
    (c.same.ensures.0 c.if-not-same.false) c.loop-i.invariant

pub returns-then-first-second : goal.returns-then-first-second
returns-then-first-second c =
    let common : c.loop-i.i ≡ c.min-common.result = omega (arith, c.loop-i.auto.i-end, c.loop-i-test.false) in
    subst (λ i. DifferAt c.args.f.now c.args.g.now (i + 1)) common
    (lengths_differ c.args.f.now c.args.g.now c.loop-i.i
    (common ∙ c.min-common.ensures ∙ rw (c.count-first.ensures.value, c.count-second.ensures.value) refl)
    (λ same. c.if-first-second.true (c.count-first.ensures.value ∙ same ∙ sym c.count-second.ensures.value)) c.loop-i.invariant)
