use Rattle.std.proofs.Common.{◌∙◌, ap, map, refl}
use Rattle.input_ranges.proofs.Between.{and_same}
use Rattle.input_space.specs.TaskParts.{task_with}
use Rattle.sym_values.specs.Reading.{read}
use Rattle.query_build.specs.Comparing.{is_asked_for}
use Rattle.query_build.proofs.Asked.{and_under}
use Rattle.query_build.proofs.inputs.asked_in_case.Goals as goal

pub returns-clause-value : goal.returns-clause-value
returns-clause-value g c vs xs p m e =
    let reads = g.L.Logic.reads c.args.g.now vs in
    let same = c.asked_bit.ensures.extends.same _ c.requires.owned vs in
    let args = ap (map (read reads)) c.into_vec-args.ensures in
    c.in_ok-here.ensures.value vs ∙ and_same _ _ _ _ same refl
    ∙ and_under (reads c.args.case.condition) _ (is_asked_for (task_with c.args.task.now) p xs)
    (λ h. c.in_ok-asked.ensures.value vs xs p m (args ∙ e h))
