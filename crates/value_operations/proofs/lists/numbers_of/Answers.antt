use Rattle.std.proofs.Common.{FitsSigned, w32, rules}
use Rattle.std.proofs.lemmas.Int.{to_z-of_z}
use Rattle.value_operations.proofs.Wholes.{wholes_more}
use Rattle.value_operations.proofs.lists.numbers_of.Goals as goal

pub loop-v-preserved : goal.loop-v-preserved
loop-v-preserved c =
    let of_z : FitsSigned w32 c.in-Int.z = search rules in
    let more = simp to_z-of_z at c.in_ok-push-in-Int.ensures.items in
    wholes_more c.args.values.now c.loop-v.v-index c.v-item.result c.in-Int.z c.loop-v.numbers.items c.push.new.self.items c.loop-v-test.true c.v-item.is c.in-Int.is more c.loop-v.invariant
