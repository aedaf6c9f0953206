-- the case and the end of the reference are kept together
use Rattle.std.proofs.Common.{◌≡◌, ◌∙◌, ◌∷◌, [], ◌++◌, List, ap, subst, sym}
use Rattle.mpy_tree.specs.declared.outcome.Outcome.{Outcome}
use Rattle.input_space.specs.TaskParts.{task_with}
use Rattle.list_questions.specs.Asking.{Asking, task_of}
use Rattle.input_space.specs.TaskSpace.{wanted}
use Rattle.list_questions.proofs.AskingLaws.{asking_more}
use Rattle.list_questions.proofs.questions.ListQuestions.push.Goals as goal

pub invariant_of-self-2 : goal.invariant_of-self-2
invariant_of-self-2 c =
    let i = c.self.inside in
    let k = task_with i.runs.task.now in
    let is : wanted k c.args.case.values ≡ c.args.end = subst (λ (a : Asking). wanted (task_of a) c.args.case.values ≡ c.args.end) (sym c.self.view_is) c.requires in
    let more = asking_more k i.levels i.last i.reached i.table.items i.kept i.ends.items c.args.case c.args.end c.self.invariant is in
    let kept : c.push.new.self ≡ i.kept ++ c.args.case ∷ [] = c.in_ok-push.ensures.more in
    let ends : c.push_reserved.new.self.items ≡ i.ends.items ++ c.args.end ∷ [] =
    c.push_reserved.ensures.items ∙ ap (λ (os : List Outcome). os ++ c.args.end ∷ []) c.in_ok-reserve.ensures.items in
    rw (kept, ends) more
