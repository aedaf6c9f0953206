use Rattle.std.proofs.Common.{◌<◌, ◌^◌, arith}
use Rattle.test_picker.proofs.LaneFacts.{first_true, none_true}
use Rattle.test_picker.proofs.blocks.first_lane.Goals as goal

pub returns-then-lane-many : goal.returns-then-lane-many
returns-then-lane-many c =
    let small : c.args.table < 2 ^ 64 = omega arith in
    first_true c.args.table c.args.many small c.requires c.if-lane-many.true

pub returns-else-lane-many : goal.returns-else-lane-many
returns-else-lane-many c =
    let small : c.args.table < 2 ^ 64 = omega arith in
    none_true c.args.table c.args.many small c.if-lane-many.false
