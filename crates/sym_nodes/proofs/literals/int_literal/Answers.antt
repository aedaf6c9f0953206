use Rattle.std.proofs.Common.{◌<◌, ◌^◌, w32, arith, subst}
use Rattle.std.specs.Prelude.{ℤ}
use Rattle.std.proofs.lemmas.Int.{to_z_pos}
use Rattle.mpy_tree.specs.Operations.{number}
use Rattle.sym_values.specs.Reading.{OutcomeReads}
use Rattle.sym_nodes.proofs.Written.{written_gives}
use Rattle.sym_nodes.proofs.literals.int_literal.Goals as goal

pub returns-clause-value : goal.returns-clause-value
returns-clause-value g c vs =
    let rd = g.L.Logic.reads c.args.g.now vs in
    let l = c.args.limits.now in
    let n = c.min-given.result in
    let least = c.min-given.ensures in
    let small : n < 2 ^ 31 = omega arith in
    written_gives rd c.in_ok-outcome.outcome l c.args.written n least
    (subst (λ (z : ℤ). OutcomeReads rd c.in_ok-outcome.outcome (number l z)) (to_z_pos w32 n small) (c.in_ok-outcome.ensures.value vs))
