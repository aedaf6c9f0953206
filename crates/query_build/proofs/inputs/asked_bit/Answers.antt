use Rattle.std.proofs.Common.{◌∙◌, ap, subst, sym}
use Rattle.std.specs.Prelude.{option_map}
use Rattle.input_space.specs.TaskParts.{task_with}
use Rattle.query_build.specs.Asking.{MayChoose}
use Rattle.query_build.specs.Comparing.{is_asked_for}
use Rattle.query_build.proofs.Asked.{none_chosen, some_chosen}
use Rattle.query_build.proofs.inputs.asked_bit.Goals as goal

pub returns-in_ok-ending-in-None-clause-value : goal.returns-in_ok-ending-in-None-clause-value
returns-in_ok-ending-in-None-clause-value g c vs xs p m h =
    let k = task_with c.args.task.now in
    let reads = g.L.Logic.reads c.args.g.now vs in
    let none = none_chosen reads k _ p (ap (option_map (λ ps. ps.now)) c.in-None.is) m in
    c.in_ok-ending-in-None.ensures.value vs xs h ∙ ap (λ o. is_asked_for k o xs) (sym none)

pub returns-in_ok-failing-in-Some-clause-value : goal.returns-in_ok-failing-in-Some-clause-value
returns-in_ok-failing-in-Some-clause-value g c vs xs p m h =
    let k = task_with c.args.task.now in
    let reads = g.L.Logic.reads c.args.g.now vs in
    let given = subst (λ o. MayChoose reads k (option_map (λ ps. ps.now) o) p) c.in-Some.is m in
    let chosen = some_chosen reads k _ p given in
    c.in_ok-failing-in-Some.ensures.value vs xs chosen.0 chosen.2 h
    ∙ ap (λ o. is_asked_for k o xs) (sym chosen.1)
