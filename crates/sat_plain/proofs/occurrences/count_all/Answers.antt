use Rattle.std.proofs.Common.{◌∙◌, ◌≤◌, arith, get_or, subst, sym, ap}
use Rattle.std.proofs.lemmas.Option.{get_or_from_slice_get}
use Rattle.clause_base.specs.declared.clause.Clause.{Clause}
use Rattle.clause_base.specs.declared.lit.Lit.{Lit}
use Rattle.sat_plain.specs.Places.{AreCounted}
use Rattle.sat_plain.proofs.Counting.{totals_more}
use Rattle.sat_plain.proofs.Covered.{covered_at}
use Rattle.sat_plain.proofs.occurrences.count_all.Goals as goal

pub count-requires : goal.count-requires
count-requires c = rw c.as_slice.ensures (λ k d within.
    let f = c.args.f.now in
    let l : Lit = get_or c.at.result.now.lits k d in
    let covered = covered_at f.vars f.clauses c.loop-place.place c.at.result.now c.at.ensures f.in_range in
    let bounds = covered.each k d within in
    let most : l.var ≤ f.vars = bounds.1 in
    (bounds.0, omega (arith, c.requires.many, c.loop-place.auto.counts)))

pub loop-place-preserved : goal.loop-place-preserved
loop-place-preserved c =
    let clauses = c.args.f.now.clauses in
    let i = c.loop-place.place in
    let d : Clause = c.at.result.now in
    let here = get_or_from_slice_get clauses i d d c.at.ensures in
    let counted = subst (AreCounted c.loop-place.counts c.count.new.counts) (c.as_slice.ensures ∙ ap (λ (x : Clause). x.lits) (sym here)) c.in_ok-count.ensures in
    totals_more clauses c.loop-place.counts c.count.new.counts i d (omega (arith, c.loop-place-test.true, c.len-place-end.ensures)) c.count.auto.counts c.loop-place.invariant counted
