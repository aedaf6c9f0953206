use Rattle.std.proofs.Common.{◌≡◌, ap, arith, map, refl, sym}
use Rattle.sym_values.specs.Owned.{owns_one}
use Rattle.sym_calls.proofs.Alikes.{alike_all, alike_more}
use Rattle.sym_calls.proofs.same.same_words.Goals as goal

pub same_bits-requires-clause-left : goal.same_bits-requires-clause-left
same_bits-requires-clause-left g c = rw c.as_slice.ensures (owns_one (λ w. w) c.args.v.now c.loop-i.i c.at-one.result.now c.requires.left c.at-one.ensures)

pub same_bits-requires-clause-right : goal.same_bits-requires-clause-right
same_bits-requires-clause-right g c = rw c.as_slice-in-loop-i.ensures (owns_one (λ w. w) c.args.w.now c.loop-i.i c.at-other.result.now c.requires.right c.at-other.ensures)

pub loop-i-preserved : goal.loop-i-preserved
loop-i-preserved g c vs =
    let each = map (g.L.Logic.reads c.args.g.now vs) in
    let one : each c.at-one.result.now ≡ each c.as_slice.result.now = ap each (sym c.as_slice.ensures) in
    let other : each c.as_slice-in-loop-i.result.now ≡ each c.at-other.result.now = ap each c.as_slice-in-loop-i.ensures in
    let same : each c.at-one.result.now ≡ each c.at-other.result.now = rw (one, c.if-not-same_bits.ensures refl vs) other in
    alike_more each c.args.v.now c.args.w.now c.loop-i.i c.at-one.result.now c.at-other.result.now c.at-one.ensures c.at-other.ensures same
    (c.loop-i.invariant vs)

pub returns : goal.returns
returns g c t vs =
    alike_all (map (g.L.Logic.reads c.args.g.now vs)) c.args.v.now c.args.w.now c.loop-i.i (omega arith) (omega arith) (c.loop-i.invariant vs)
