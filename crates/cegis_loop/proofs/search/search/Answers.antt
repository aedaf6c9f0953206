use Rattle.std.specs.Prelude.{length}
use Rattle.std.proofs.Common.{ap, arith}
use Rattle.cegis_loop.proofs.Kept.{few_kept}
use Rattle.cegis_loop.proofs.search.search.Goals as goal

pub loop-at_least-smaller-in-Failed : goal.loop-at_least-smaller-in-Failed
loop-at_least-smaller-in-Failed g c =
    let t = c.in-Failed.ensures.attempt in
    let few = few_kept _ _ t.0.kept in
    let same = ap (λ x. length (g.Q.Questions.space x).inputs) c.loop-at_least.invariant.same in
    omega (arith, few, t.1, same)
