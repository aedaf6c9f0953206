use Rattle.std.proofs.Common.{◌∙◌, ◌+◌, ap, map, Some, subst}
use Rattle.bounds_reader.specs.declared.bounds.Bounds.{Bounds}
use Rattle.choice_tree.specs.Choices.{member_of}
use Rattle.cegis_loop.specs.Space.{IsFail}
use Rattle.input_space.specs.Inputs.{are_within, param_type}
use Rattle.input_space.specs.TaskParts.{task_with}
use Rattle.input_space.specs.TaskSpace.{space}
use Rattle.input_space.specs.ValueBits.{all_bits_for}
use Rattle.task_bits.specs.Tasks.{AreArgumentsOf}
use Rattle.query_build.specs.Comparing.{is_asked_for}
use Rattle.query_build.specs.Inputs.{spells_input, values_in}
use Rattle.query_build.proofs.Adding.{adds_then}
use Rattle.query_build.proofs.InputGoals.{fail_sought, input_goal}
use Rattle.query_build.proofs.goals.fail_goal.Goals as goal

pub asked_by_cases-requires : goal.asked_by_cases-requires
asked_by_cases-requires g c =
    let v = g.V.Logic in
    record {
      picks = c.in_ok-picks.ensures.made;
      args = subst (λ (b : Bounds). AreArgumentsOf v.owns c.fresh_input.new.g b c.in_ok-input.input.args)
          c.bounds.ensures c.in_ok-input.ensures.args;
    }

pub returns-clause-adds : goal.returns-clause-adds
returns-clause-adds g c =
    let v = g.V.Logic in
    let adds = adds_then (adds_then c.in_ok-input.ensures.adds c.asked_by_cases.ensures.extends)
    c.and.ensures.extends in
    record {
      kept = adds.kept;
      same = adds.same;
      variables = adds.variables ∙ ap (λ (b : Bounds). v.count c.args.g.now
          + all_bits_for b.limits (map param_type b.params)) c.bounds.ensures;
    }

pub returns-clause-value : goal.returns-clause-value
returns-clause-value g c budget vs =
    let v = g.V.Logic in
    let k = task_with c.args.task.now in
    let s = c.args.selection.now in
    let made = c.rules_make_programs.ensures (member_of s) in
    let input = c.in_ok-input.ensures in
    let second = c.asked_by_cases.ensures.extends in
    let within = second.same _ input.owned vs ∙ input.within vs
    ∙ ap (λ (b : Bounds). spells_input b vs) c.bounds.ensures in
    input_goal k (is_asked_for k (Some made.0)) (IsFail (space k budget) s)
    (fail_sought k budget s made.0 made.1) vs
    (v.reads c.asked_by_cases.new.g vs c.in_ok-input.input.within)
    (v.reads c.asked_by_cases.new.g vs c.in_ok-asked.asked) _ within
    (λ xs e h. c.in_ok-asked.ensures.value vs xs (Some made.0)
    (record { members = member_of s; read = c.in_ok-picks.ensures.value vs; made = made.1 })
    (input.value vs xs (ap (λ (b : Bounds). values_in b vs) c.bounds.ensures ∙ e)
    (ap (λ (b : Bounds). are_within b.params xs) c.bounds.ensures ∙ h)) h)
    (c.in_ok-goal.ensures.value vs)
