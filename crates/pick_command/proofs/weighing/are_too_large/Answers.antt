-- a program more, and what the sum says
use Rattle.std.proofs.Common.{◌*◌, ap, arith}
use Rattle.pick_command.specs.Requests.{typed_of}
use Rattle.pick_command.proofs.WeightSums.{all_weighed, large_exactly, more_weighed}
use Rattle.pick_command.proofs.weighing.are_too_large.Goals as goal

pub loop-typed-preserved : goal.loop-typed-preserved
loop-typed-preserved c =
    let k = c.args.request.now in
    let below = rw c.items-typed-items.ensures at c.loop-typed-test.true in
    let item = rw c.items-typed-items.ensures at c.typed-item.is in
    more_weighed typed_of k.bounds (typed_of k.reference) k.submissions c.loop-typed.typed-index
    c.typed-item.result c.loop-typed.heaviest c.loop-typed.sum c.in_ok-weight.weight _ _ below item
    c.loop-typed.invariant c.in_ok-weight.ensures (omega arith) (omega arith)

pub returns-else-heaviest-gt-MOST_WEIGHT : goal.returns-else-heaviest-gt-MOST_WEIGHT
returns-else-heaviest-gt-MOST_WEIGHT c =
    let k = c.args.request.now in
    let past = rw c.items-typed-items.ensures at c.loop-typed-test.false in
    large_exactly k.bounds _ c.loop-typed.heaviest c.loop-typed.sum
    (all_weighed typed_of k.bounds (typed_of k.reference) k.submissions c.loop-typed.typed-index
    c.loop-typed.heaviest c.loop-typed.sum past c.loop-typed.invariant) _ (omega arith)
    (ap (λ n. c.loop-typed.sum * n) c.runs.ensures.value)
