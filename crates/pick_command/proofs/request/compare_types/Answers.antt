-- a submission more, and one that differs
use Rattle.file_commands.proofs.Stopping.{stopped}
use Rattle.pick_command.specs.Requests.{request_of, typed_of}
use Rattle.pick_command.proofs.Reading.{compare_on, mapped_at, one_differs}
use Rattle.pick_command.proofs.request.compare_types.Goals as goal

pub returns-in_err-compare_type : goal.returns-in_err-compare_type
returns-in_err-compare_type c =
    let k = request_of c.args.request.now in
    let below = rw c.items-typed-items.ensures at c.loop-i-test.true in
    let item = rw c.items-typed-items.ensures at c.typed-item.is in
    stopped _ _ _ c.from_residual.result c.in_err-compare_type.field-0.0 c.from_residual.ensures.1
    c.in_err-compare_type.ensures.refused
    (one_differs k.bounds k.reference k.submissions c.loop-i.i (typed_of c.typed-item.result)
    c.submission-source.result c.submission-source.ensures
    (mapped_at typed_of c.args.request.now.submissions c.loop-i.i c.typed-item.result below item)
    c.loop-i.invariant)

pub loop-i-preserved : goal.loop-i-preserved
loop-i-preserved c =
    let k = request_of c.args.request.now in
    let below = rw c.items-typed-items.ensures at c.loop-i-test.true in
    let item = rw c.items-typed-items.ensures at c.typed-item.is in
    compare_on k.bounds k.reference k.submissions c.loop-i.i (typed_of c.typed-item.result)
    (mapped_at typed_of c.args.request.now.submissions c.loop-i.i c.typed-item.result below item)
    c.in_ok-compare_type.ensures.one_type c.loop-i.invariant
