use Rattle.std.proofs.Common.{sym}
use Rattle.mpy_tree.specs.Operations.{compare, truth}
use Rattle.mpy_tree.specs.declared.operators.CmpOp.TheVariants.{Le}
use Rattle.sym_nodes.proofs.Giving.{numbers_give}
use Rattle.sym_nodes.proofs.Typed.{width_is}
use Rattle.sym_nodes.proofs.comparisons.up_to.Goals as goal

pub returns-clause-value : goal.returns-clause-value
returns-clause-value g c =
    let l = c.args.limits.now in
    let a = c.args.a.now in
    let v = c.word_of-v in
    numbers_give g.L.Logic.reads c.args.g.now c.at_most.new.g a c.args.b.now v.result.now c.word_of-w.result.now c.in_ok-outcome.outcome (λ l v w. truth (compare Le v w)) l
    v.ensures c.word_of-w.ensures (sym (width_is l v.result.now a v.ensures c.requires.left.form)) c.in_ok-outcome.ensures.value
