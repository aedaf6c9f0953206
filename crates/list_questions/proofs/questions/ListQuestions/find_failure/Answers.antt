-- an input on which the selection's program fails, or none
use Rattle.std.proofs.Common.{◌≡◌, ◌∙◌, ap, subst, sym}
use Rattle.mpy_tree.specs.Shapes.{program_shape}
use Rattle.mpy_tree.specs.View.{routines_of}
use Rattle.choice_tree.specs.Choices.{member_of}
use Rattle.choice_tree.specs.Selections.{plain}
use Rattle.cegis_loop.specs.Space.{AgreesOn, IsFail}
use Rattle.input_space.specs.declared.case.Case.{Case}
use Rattle.input_space.specs.TaskParts.{task_with}
use Rattle.input_space.specs.Tasks.{tree_of}
use Rattle.list_questions.specs.Asking.{Asking, IsFailing, task_of}
use Rattle.input_space.specs.TaskSpace.{space, wanted_inputs}
use Rattle.input_space.proofs.TaskSpaceLaws.{all_selection_meet}
use Rattle.list_questions.proofs.questions.ListQuestions.find_failure.Goals as goal

pub returns-in-None-clause-found : goal.returns-in-None-clause-found
returns-in-None-clause-found c =
    let k = task_with c.self.inside.runs.task.now in
    let s = c.args.c.now in
    let p = routines_of c.in_ok-program.program in
    let made : program_shape p ≡ plain (member_of s) (tree_of k) = c.in_ok-program.ensures ∙ ap (plain (member_of s)) c.tree.ensures in
    let all = all_selection_meet k s p (wanted_inputs k) made (rw c.in-None.is at c.in_ok-first_failure.ensures) in
    subst (λ (a : Asking). AgreesOn (space (task_of a) 1) (wanted_inputs (task_of a)) s) c.self.view_is all

pub returns-clause-found : goal.returns-clause-found
returns-clause-found c =
    let k = task_with c.self.inside.runs.task.now in
    let s = c.args.c.now in
    let p = routines_of c.in_ok-program.program in
    let made : program_shape p ≡ plain (member_of s) (tree_of k) = c.in_ok-program.ensures ∙ ap (plain (member_of s)) c.tree.ensures in
    let failing : IsFailing k p c.in-Some.expected = rw c.in-Some.is at c.in_ok-first_failure.ensures in
    let fails : IsFail (space k 1) s c.in-Some.expected.case = record {
      input = failing.expected.input;
      fails = λ meets. failing.fails (meets p made);
    } in
    let told = subst (λ (x : Case). IsFail (space k 1) s x) (sym c.in_ok-keep-in-Some.ensures.kept.0) fails in
    subst (λ (a : Asking). IsFail (space (task_of a) 1) s c.in_ok-keep-in-Some.field-0) c.self.view_is told
