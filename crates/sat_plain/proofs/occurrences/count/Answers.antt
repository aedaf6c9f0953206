use Rattle.std.proofs.Common.{false, ◌<◌, ◌*◌, arith, get_or, length, subst}
use Rattle.clause_base.specs.declared.lit.Lit.{Lit}
use Rattle.sat_plain.specs.Places.{list_of}
use Rattle.sat_plain.proofs.Counting.{counted_more}
use Rattle.sat_plain.proofs.occurrences.count.Goals as goal

pub loop-lit-preserved : goal.loop-lit-preserved
loop-lit-preserved c =
    let none : Lit = record { var = 0; positive = false } in
    let i = c.loop-lit.lit-index in
    let l : Lit = get_or c.args.lits.now i none in
    let inside : 2 * l.var < length c.args.counts.now = (c.requires i none c.loop-lit-test.true).1 in
    let fits : list_of l < length c.loop-lit.counts = subst (λ n. n < length c.loop-lit.counts) c.list-number.ensures.value (omega (arith, c.list-number.ensures.under, inside, c.loop-lit.auto.counts)) in
    rw c.list-number.ensures.value (counted_more c.args.counts.now c.loop-lit.counts c.args.lits.now i none c.loop-lit-test.true c.loop-lit.auto.counts fits c.loop-lit.invariant)
