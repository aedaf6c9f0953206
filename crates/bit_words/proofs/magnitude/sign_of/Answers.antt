use Rattle.std.proofs.Common.{◌-◌, ◌^◌, arith}
use Rattle.bit_words.proofs.Integers.{int_split, nat_taken_below}
use Rattle.bit_words.proofs.Signs.{sign_is}
use Rattle.bit_words.proofs.magnitude.sign_of.Goals as goal

pub returns-clause-value : goal.returns-clause-value
returns-clause-value g c vs =
    let f = g.L.Logic.reads c.args.g.now vs in
    let top = c.len.result - 1 in
    sign_is (2 ^ top) _ (f c.at.result) _ (nat_taken_below f c.args.a.now top (omega arith)) (int_split f c.args.a.now top c.at.result c.at.ensures (omega arith))
