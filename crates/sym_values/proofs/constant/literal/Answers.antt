use Rattle.std.proofs.Common.{refl, w32}
use Rattle.std.proofs.lemmas.Int.{to_z-of_z}
use Rattle.sym_values.proofs.Numbers.{number_is}
use Rattle.sym_values.proofs.constant.literal.Goals as goal

pub returns-clause-value : goal.returns-clause-value
returns-clause-value g c vs =
    let written = to_z-of_z w32 c.args.given c.ranges.given in
    number_is c.args.limits.now c.args.limits.now.width _ _ c.args.given refl (rw written at (c.in_ok-word.ensures.over vs)) (rw written at (c.in_ok-word.ensures.value vs))
