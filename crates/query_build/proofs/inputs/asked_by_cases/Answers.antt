use Rattle.std.proofs.Common.{◌∙◌, ◌&&◌, ap, arith, length, rules, subst, sym}
use Rattle.std.specs.List.{AllZip}
use Rattle.std.proofs.lemmas.List.{length-map}
use Rattle.bit_words.specs.Logic.{extends_keeps, extends_trans}
use Rattle.bit_words.specs.Later.{owned_later}
use Rattle.input_bits.specs.Cases.{Covers}
use Rattle.input_bits.proofs.CaseArgs.{readings_later}
use Rattle.input_space.specs.Inputs.{param_type}
use Rattle.input_space.specs.TaskParts.{task_with}
use Rattle.sym_nodes.specs.Operands.{ty_of}
use Rattle.query_build.specs.Comparing.{is_asked_for}
use Rattle.query_build.proofs.Arguments.{arguments_from, bits_owned, forms_are}
use Rattle.query_build.proofs.Asked.{as_long, case_more, chosen_later, given_later, in_some}
use Rattle.query_build.proofs.Asked.{or_same}
use Rattle.query_build.proofs.inputs.asked_by_cases.Goals as goal

pub loop-number-init : goal.loop-number-init
loop-number-init g c = record {
  extends = search rules;
  owned = c.constant-some.ensures.owned;
  value = λ vs xs p m h. c.constant-some.ensures.value vs;
}

pub input_case-requires : goal.input_case-requires
input_case-requires g c =
    let args = c.args.args.now in
    let params = c.args.task.now.bounds.params in
    let parts = as_long Covers _ _ c.in_ok-found.ensures.covers in
    let bounds = ap (λ b. length b.params) c.bounds.ensures in
    let slice = ap length c.as_slice-parts.ensures.value in
    let types = ap length c.requires.args.typed in
    let one = length-map args ty_of in
    let two = length-map params param_type in
    record {
      alike = omega arith;
      owned = owned_later (extends_keeps c.loop-number.invariant.extends)
          (bits_owned c.requires.args);
    }

pub asked_in_case-requires : goal.asked_in_case-requires
asked_in_case-requires g c =
    let k = task_with c.args.task.now in
    let made = c.in_ok-case.ensures in
    let later = extends_trans c.loop-number.invariant.extends c.input_case.ensures.extends in
    record {
      picks = given_later k (λ ps. ps.now) c.args.picks (extends_keeps later) c.requires.picks;
      owned = made.owned;
      args = arguments_from made.owned_args (made.forms ∙ forms_are c.requires.args);
    }

pub loop-number-preserved : goal.loop-number-preserved
loop-number-preserved g c =
    let k = task_with c.args.task.now in
    let logic = g.L.Logic in
    let reads = logic.reads in
    let before = c.loop-number.invariant in
    let some = c.loop-number.some in
    let parts = c.as_slice-parts.result.now in
    let number = c.loop-number.number in
    let made = c.in_ok-case.ensures in
    let first = c.input_case.ensures.extends in
    let second = c.asked_in_case.ensures.extends in
    let third = c.or.ensures.extends in
    let case = extends_trans before.extends first in
    record {
      extends = extends_trans case (extends_trans second third);
      owned = c.in_ok-some.ensures.owned;
      value = λ vs xs p m h.
          let f = reads c.args.g.now vs in
          let asked = is_asked_for k p xs in
          let values = readings_later (extends_keeps before.extends) c.args.args.now
          (bits_owned c.requires.args) vs ∙ h in
          let chosen = chosen_later k (λ ps. ps.now) c.args.picks p vs (extends_keeps case)
          c.requires.picks m in
          let in_case = made.condition vs xs values in
          let here = c.in_ok-here.ensures.value vs xs p chosen (λ on. made.args vs
          on ∙ values) in
          let so_far = second.same _ (first.kept _ before.owned) vs ∙ first.same _ before.owned vs
          ∙ before.value vs xs p m h in
          let now = here ∙ ap (λ b. b && asked) in_case in
          c.in_ok-some.ensures.value vs ∙ or_same _ _ _ _ so_far now
          ∙ case_more parts xs number asked;
    }

pub returns-clause-value : goal.returns-clause-value
returns-clause-value g c vs xs p m h within =
    let parts = c.as_slice-parts.result.now in
    let params = c.args.task.now.bounds.params in
    let found = c.in_ok-found.found.items in
    let asked = is_asked_for (task_with c.args.task.now) p xs in
    let covers = subst (λ ss. AllZip Covers ss params) (sym c.as_slice-parts.ensures.value)
    (subst (λ b. AllZip Covers found b.params) c.bounds.ensures c.in_ok-found.ensures.covers) in
    let case = c.values_have_cases.ensures parts params xs covers within in
    let below = case.below in
    let many = c.cases_count-count.ensures in
    c.loop-number.invariant.value vs xs p m h
    ∙ ap (λ b. b && asked)
    (in_some parts xs c.loop-number.number case.number (omega arith) case.is_in)
