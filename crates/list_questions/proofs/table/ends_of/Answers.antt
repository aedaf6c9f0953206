-- how the reference ends on all inputs, one after the other
use Rattle.std.proofs.Common.{◌≡◌, ◌∙◌, ◌∷◌, [], ◌++◌, List, Some, length, ap, arith, slice_get, subst, sym}
use Rattle.mpy_tree.specs.declared.outcome.Outcome.{Outcome}
use Rattle.bounds_reader.specs.declared.bounds.Bounds.{Bounds}
use Rattle.input_space.specs.Inputs.{inputs}
use Rattle.input_space.specs.TaskParts.{task_with}
use Rattle.input_space.specs.TaskSpace.{wanted}
use Rattle.list_questions.proofs.TableLaws.{more_ends, whole_table}
use Rattle.list_questions.proofs.table.ends_of.Goals as goal

pub loop-place-preserved : goal.loop-place-preserved
loop-place-preserved c =
    let k = task_with c.args.runs.now.task.now in
    let vs = c.in_ok-case.case.values in
    let at : slice_get (inputs k.bounds.params) c.loop-place.place ≡ Some vs =
    subst (λ (b : Bounds). slice_get (inputs b.params) c.loop-place.place ≡ Some vs) c.bounds-bounds.ensures c.in_ok-case.ensures in
    c.in_ok-push.ensures.items
    ∙ ap (λ (o : Outcome). c.loop-place.ends.items ++ o ∷ []) c.in_ok-reference.ensures
    ∙ ap (λ (os : List Outcome). os ++ wanted k vs ∷ []) c.loop-place.invariant
    ∙ sym (more_ends k c.loop-place.place vs at)

pub returns-clause-ends : goal.returns-clause-ends
returns-clause-ends c =
    let k = task_with c.args.runs.now.task.now in
    let same = ap (λ (b : Bounds). length (inputs b.params)) c.bounds-bounds.ensures in
    c.loop-place.invariant
    ∙ whole_table k c.loop-place.place (let end = c.inputs_count-count.ensures in let past = c.loop-place-test.false in let few = c.if-count-gt-MOST_INPUTS.false in grind arith)
