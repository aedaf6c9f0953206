use Rattle.std.proofs.Common.{arith, refl}
use Rattle.sym_values.specs.Forms.{bits_of}
use Rattle.sym_values.specs.Owned.{owns_one}
use Rattle.sym_values.specs.Reading.{map_bits}
use Rattle.sym_calls.proofs.Alikes.{alike_all, alike_more}
use Rattle.sym_calls.proofs.same.same_values.Goals as goal

pub same_value-requires-clause-left : goal.same_value-requires-clause-left
same_value-requires-clause-left g c = owns_one bits_of c.args.xs.now c.loop-i.i c.at-x.result.now c.requires.left c.at-x.ensures

pub same_value-requires-clause-right : goal.same_value-requires-clause-right
same_value-requires-clause-right g c = owns_one bits_of c.args.ys.now c.loop-i.i c.at-y.result.now c.requires.right c.at-y.ensures

pub loop-i-preserved : goal.loop-i-preserved
loop-i-preserved g c vs =
    alike_more (map_bits (g.L.Logic.reads c.args.g.now vs)) c.args.xs.now c.args.ys.now c.loop-i.i c.at-x.result.now c.at-y.result.now c.at-x.ensures c.at-y.ensures
    (c.if-not-same_value.ensures refl vs) (c.loop-i.invariant vs)

pub returns : goal.returns
returns g c t vs =
    alike_all (map_bits (g.L.Logic.reads c.args.g.now vs)) c.args.xs.now c.args.ys.now c.loop-i.i (omega arith) (omega arith) (c.loop-i.invariant vs)
