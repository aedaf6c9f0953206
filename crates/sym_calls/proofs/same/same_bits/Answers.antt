use Rattle.std.proofs.Common.{arith}
use Rattle.sym_calls.proofs.Alikes.{alike_all}
use Rattle.sym_calls.proofs.same.same_bits.Goals as goal

pub returns : goal.returns
returns g c t vs =
    alike_all (g.L.Logic.reads c.args.g.now vs) c.args.v.now c.args.w.now c.loop-i.i (omega arith) (omega arith) (c.loop-i.invariant vs)
