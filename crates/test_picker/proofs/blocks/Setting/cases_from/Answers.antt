-- one input more, and all of them
use Rattle.std.proofs.Common.{◌≡◌, ◌+◌, arith, length, min}
use Rattle.input_space.specs.Inputs.{inputs}
use Rattle.test_picker.proofs.BlockLaws.{all_from, few_from, one_more}
use Rattle.test_picker.proofs.blocks.Setting.cases_from.Goals as goal

pub loop-i-preserved : goal.loop-i-preserved
loop-i-preserved c =
    one_more (inputs c.args.self.now.bounds.now.params) c.args.first c.loop-i.i c.loop-i.cases.items
    c.push.new.self.items c.in_ok-case_at.field-0 c.loop-i.invariant c.in_ok-case_at.ensures
    c.in_ok-push.ensures.items

pub from_vec-requires : goal.from_vec-requires
from_vec-requires c =
    let xs = inputs c.args.self.now.bounds.now.params in
    let end : c.loop-i.i ≡ min (length xs) (c.args.first + 64) = omega arith in
    let few = few_from xs c.args.first c.loop-i.i c.loop-i.cases.items end c.loop-i.invariant in
    omega (arith, few)

pub returns : goal.returns
returns c =
    let xs = inputs c.args.self.now.bounds.now.params in
    let end : c.loop-i.i ≡ min (length xs) (c.args.first + 64) = omega arith in
    rw c.from_vec.ensures
    (all_from xs c.args.first c.loop-i.i c.loop-i.cases.items end c.loop-i.invariant)
