-- behind inputs on none of which the program fails
use Rattle.std.proofs.Common.{◌≡◌, ◌+◌, arith}
use Rattle.test_picker.proofs.Searches.{new_first}
use Rattle.test_picker.proofs.blocks.Setting.first_in.Goals as goal

pub returns-in-Some : goal.returns-in-Some
returns-in-Some c =
    let first = rw c.in-Some.is at c.in_ok-lane.ensures in
    let sum : c.args.place + c.from.result ≡ c.args.place + c.in-Some.lane = omega arith in
    new_first c.args.self.now c.args.block.now c.args.place c.args.program.now c.in-Some.lane
    (c.args.place + c.from.result) sum first
