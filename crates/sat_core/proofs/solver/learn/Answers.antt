use Rattle.std.proofs.Common.{◌≡◌, ◌∙◌, ◌++◌, ◌∷◌, [], ap, sym}
use Rattle.clause_base.specs.declared.log.Step.{Step}
use Rattle.sat_watch.specs.Searching.{Base, State}
use Rattle.sat_core.proofs.Learning.{empty_of, filled_of, learnt}
use Rattle.sat_core.proofs.solver.learn.Goals as goal

pub returns : goal.returns
returns c =
    let base : Base = c.args.search.base in
    let step : Step = c.in_ok-explained.explained.step in
    let lits = c.as_slice.result.now in
    let is : c.in_ok-add.field-0.base ≡ record base { steps = base.steps ++ step ∷ [] } =
    c.in_ok-add.ensures.base ∙ ap (λ (s : State). record s.base { steps = s.base.steps ++ step ∷ [] }) c.back_to.ensures in
    learnt base c.in_ok-add.field-0.base step c.is_empty-refuted.result c.requires.going is
    (λ yes. sym c.as_slice.ensures ∙ empty_of lits (sym c.is_empty-refuted.ensures ∙ yes))
    (λ no none. filled_of lits (sym c.is_empty-refuted.ensures ∙ no) (c.as_slice.ensures ∙ none))
