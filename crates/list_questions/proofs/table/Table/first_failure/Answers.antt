-- the first input on which the program fails, or none
use Rattle.std.proofs.Common.{◌≡◌, arith, true}
use Rattle.mpy_tree.specs.View.{routines_of}
use Rattle.input_space.specs.TaskParts.{task_with}
use Rattle.list_questions.specs.Asking.{expected_in}
use Rattle.list_questions.proofs.TableLaws.{is_failing, meets_all, table_length}
use Rattle.list_questions.proofs.table.Table.first_failure.Goals as goal

pub returns-then-not-branch : goal.returns-then-not-branch
returns-then-not-branch c =
    rw c.in_ok-kept.ensures
    (is_failing (task_with c.args.self.now.runs.task.now) (routines_of c.args.program.now) c.loop-place.place (expected_in c.in-Some.row) (rw c.in-Some.is at c.in_ok-row.ensures)
    (λ met. let holds : c.in_ok-meets.field-0 ≡ true = c.in_ok-meets.ensures.1 met in cc))

pub returns : goal.returns
returns c =
    let k = task_with c.args.self.now.runs.task.now in
    let long = table_length k c.args.self.now.ends.now c.requires.ends_are in
    let past = c.loop-place-test.false in
    meets_all k (routines_of c.args.program.now) c.loop-place.place (omega (arith, long, past)) c.loop-place.invariant
