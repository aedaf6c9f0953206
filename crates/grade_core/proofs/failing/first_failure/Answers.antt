-- the first case that fails
use Rattle.std.proofs.Common.{◌≡◌, List, Some, length, refl, slice_get, subst}
use Rattle.std.proofs.lemmas.Option.{slice_get_read}
use Rattle.input_space.specs.declared.case.Case.{Case}
use Rattle.input_space.specs.TaskParts.{task_with}
use Rattle.input_space.specs.TaskSpace.{Meets}
use Rattle.input_space.proofs.Elements.{each_more}
use Rattle.grade_core.proofs.FailingLaws.{is_first}
use Rattle.grade_core.proofs.failing.first_failure.Goals as goal

pub returns-in-Some : goal.returns-in-Some
returns-in-Some c =
    let k = task_with c.args.runs.now.task.now in
    let xs = c.items-case-items.result.now in
    let here = slice_get_read xs (length xs) c.loop-case.case-index c.case-item.result refl c.loop-case-test.true c.case-item.is in
    is_first k c.args.kept.now c.loop-case.case-index c.case-item.result c.in-Some.failure c.requires.inputs
    (subst (λ (ys : List Case). slice_get ys c.loop-case.case-index ≡ Some c.case-item.result) c.items-case-items.ensures here)
    (rw c.in-Some.is at c.in_ok-failure.ensures)
    (λ j y below at. c.loop-case.invariant j y below (rw c.items-case-items.ensures at))

pub loop-case-preserved : goal.loop-case-preserved
loop-case-preserved c =
    let k = task_with c.args.runs.now.task.now in
    let xs = c.items-case-items.result.now in
    each_more (Meets k k.submission) xs c.loop-case.case-index c.case-item.result c.loop-case.invariant
    (slice_get_read xs (length xs) c.loop-case.case-index c.case-item.result refl c.loop-case-test.true c.case-item.is)
    (rw c.in_default.is at c.in_ok-failure.ensures)
