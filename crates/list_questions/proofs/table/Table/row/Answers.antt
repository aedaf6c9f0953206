-- what the table has at a place
use Rattle.std.proofs.Common.{◌≡◌, ◌∙◌, Some, length, ap, arith, get_or, slice_get, subst}
use Rattle.std.proofs.lemmas.Option.{slice_get-get_or}
use Rattle.bounds_reader.specs.declared.bounds.Bounds.{Bounds}
use Rattle.mpy_tree.specs.Outcomes.{is_done}
use Rattle.input_space.specs.Inputs.{inputs}
use Rattle.input_space.specs.TaskParts.{task_with}
use Rattle.list_questions.proofs.TableLaws.{looked_up, table_length}
use Rattle.list_questions.proofs.table.Table.row.Goals as goal

pub case_at-requires-clause-within : goal.case_at-requires-clause-within
case_at-requires-clause-within c =
    let long = table_length (task_with c.args.self.now.runs.task.now) c.args.self.now.ends.now c.requires.table.ends_are in
    let same = ap (λ (b : Bounds). length (inputs b.params)) c.bounds.ensures in
    omega (arith, c.requires.place, long, same)

pub case_at-requires-clause-counted : goal.case_at-requires-clause-counted
case_at-requires-clause-counted c =
    let long = table_length (task_with c.args.self.now.runs.task.now) c.args.self.now.ends.now c.requires.table.ends_are in
    let same = ap (λ (b : Bounds). length (inputs b.params)) c.bounds.ensures in
    omega (arith, c.requires.table.few, long, same)

pub returns-then-not-is_done : goal.returns-then-not-is_done
returns-then-not-is_done c = λ vs at.
    let t = c.args.self.now.ends.now in
    let read = slice_get-get_or t c.args.place c.index-self-place.result c.requires.place in
    let not = c.is_done.ensures in
    let test = c.if-not-is_done.true in
    ap is_done (looked_up (task_with c.args.self.now.runs.task.now) t c.args.place vs (get_or t c.args.place c.index-self-place.result) c.requires.table.ends_are at read) ∙ (cc)

pub returns : goal.returns
returns c =
    let k = task_with c.args.self.now.runs.task.now in
    let t = c.args.self.now.ends.now in
    let vs = c.in_ok-case_at.field-0.values in
    let read = slice_get-get_or t c.args.place c.index-self-place.result c.requires.place in
    let is = c.is_done.ensures in
    let test = c.if-not-is_done.false in
    let at : slice_get (inputs k.bounds.params) c.args.place ≡ Some vs =
    subst (λ (b : Bounds). slice_get (inputs b.params) c.args.place ≡ Some vs) c.bounds.ensures c.in_ok-case_at.ensures in
    record {
      at = at;
      end_is = looked_up k t c.args.place vs (get_or t c.args.place c.index-self-place.result) c.requires.table.ends_are at read;
      done = cc;
    }
