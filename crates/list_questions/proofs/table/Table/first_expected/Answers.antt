-- the first input on which the reference gives a value, or none
use Rattle.std.proofs.Common.{arith}
use Rattle.input_space.specs.TaskParts.{task_with}
use Rattle.list_questions.specs.Asking.{expected_in}
use Rattle.list_questions.proofs.TableLaws.{is_expected, no_input, table_length}
use Rattle.list_questions.proofs.table.Table.first_expected.Goals as goal

pub returns-in-Some : goal.returns-in-Some
returns-in-Some c =
    rw c.in_ok-kept.ensures
    (is_expected (task_with c.args.self.now.runs.task.now) c.loop-place.place (expected_in c.in-Some.row) (rw c.in-Some.is at c.in_ok-row.ensures))

pub returns : goal.returns
returns c =
    let k = task_with c.args.self.now.runs.task.now in
    let long = table_length k c.args.self.now.ends.now c.requires.ends_are in
    let past = c.loop-place-test.false in
    no_input k c.loop-place.place (omega (arith, long, past)) c.loop-place.invariant
