use Rattle.std.proofs.Common.{◌∙◌, Some, map, ap, sym, take}
use Rattle.std.proofs.lemmas.List.{take_all}
use Rattle.std.proofs.lemmas.Option.{slice_get-get_or}
use Rattle.mpy_tree.specs.Fitting.{type_of}
use Rattle.sym_values.proofs.Held.{take_read}
use Rattle.input_space.specs.Inputs.{param_type}
use Rattle.task_bits.proofs.FirstValues.{each_fits, fit_types, one_more}
use Rattle.task_bits.proofs.constants.constant_case.Goals as goal

pub constant_value-requires : goal.constant_value-requires
constant_value-requires g c =
    let b = c.args.bounds.now in
    let i = c.loop-value.value-index in
    let fit = c.inputs_fit.ensures b c.args.case.now.values c.requires in
    let here = rw c.items-value-items.ensures at
    (slice_get-get_or c.items-value-items.result.now i c.value-item.result
    c.loop-value-test.true ∙ ap (λ v. Some v) (sym c.value-item.is)) in
    each_fits b.limits (map param_type b.params) c.args.case.now.values i c.value-item.result fit
    here

pub loop-value-preserved : goal.loop-value-preserved
loop-value-preserved g c =
    let i = c.loop-value.value-index in
    let values = c.args.case.now.values in
    let here = rw c.items-value-items.ensures at
    (slice_get-get_or c.items-value-items.result.now i c.value-item.result
    c.loop-value-test.true ∙ ap (λ v. Some v) (sym c.value-item.is)) in
    rw (take_read values i c.value-item.result here, c.in_ok-push.ensures.items)
    (one_more c.args.bounds.now.limits (take i values) c.value-item.result
    c.loop-value.args.items c.in_ok-arg.arg c.loop-value.invariant c.in_ok-arg.ensures.made
    c.in_ok-arg.ensures.value)

pub returns-clause-made : goal.returns-clause-made
returns-clause-made g c =
    let b = c.args.bounds.now in
    let values = c.args.case.now.values in
    let fit = c.inputs_fit.ensures b values c.requires in
    let many = rw c.items-value-items.ensures at c.loop-value-test.false in
    let all = take_all c.loop-value.value-index values many in
    record {
      formed = record { each = c.loop-value.invariant.each };
      typed = c.loop-value.invariant.types ∙ ap (map type_of) all
          ∙ fit_types b.limits (map param_type b.params) values fit;
    }
