use Rattle.sym_values.specs.Owned.{word_owned}
use Rattle.sym_nodes.proofs.Typed.{one_typed, three_typed, two_typed, width_is}
use Rattle.sym_nodes.proofs.Written.{range_of_one, range_of_three, range_of_two, small_fits}
use Rattle.std.proofs.Common.{arith}
use Rattle.sym_nodes.proofs.builtins.range_operation.Goals as goal

pub range_value-requires-clause-to : goal.range_value-requires-clause-to
range_value-requires-clause-to g c =
    let l = c.args.limits.now in
    let only = c.one_value-only in
    let typed = one_typed l c.args.parts.now only.result.now c.requires.parts only.ensures in
    record { owned = word_owned typed.owned c.word_of-to.ensures; width = width_is l c.word_of-to.result.now only.result.now c.word_of-to.ensures typed.form }

pub returns-in-1-clause-value : goal.returns-in-1-clause-value
returns-in-1-clause-value g c vs ws e =
    let l = c.args.limits.now in
    let reads = g.L.Logic.reads in
    let range = c.in_ok-range-in-1 in
    range_of_one (reads c.args.g.now vs) (reads c.range_value.new.g vs) c.args.parts.now range.range l c.one_value-only.result.now c.word_of-to.result.now _ _ c.one_value-only.ensures c.word_of-to.ensures
    (c.in_ok-zero.ensures.value vs (small_fits l 0 (omega arith))) (c.in_ok-one.ensures.value vs (small_fits l 1 (omega arith))) (range.ensures.value vs) ws e

pub range_value-requires-in-2-clause-from : goal.range_value-requires-in-2-clause-from
range_value-requires-in-2-clause-from g c =
    let l = c.args.limits.now in
    let two = c.two_values-two in
    let typed = two_typed l c.args.parts.now two.result.first.now two.result.second.now c.requires.parts two.ensures in
    record { owned = word_owned typed.0.owned c.word_of-from.ensures; width = width_is l c.word_of-from.result.now two.result.first.now c.word_of-from.ensures typed.0.form }

pub range_value-requires-in-2-clause-to : goal.range_value-requires-in-2-clause-to
range_value-requires-in-2-clause-to g c =
    let l = c.args.limits.now in
    let two = c.two_values-two in
    let typed = two_typed l c.args.parts.now two.result.first.now two.result.second.now c.requires.parts two.ensures in
    record { owned = word_owned typed.1.owned c.word_of-to-in-2.ensures; width = width_is l c.word_of-to-in-2.result.now two.result.second.now c.word_of-to-in-2.ensures typed.1.form }

pub returns-in-2-clause-value : goal.returns-in-2-clause-value
returns-in-2-clause-value g c vs ws e =
    let l = c.args.limits.now in
    let reads = g.L.Logic.reads in
    let two = c.two_values-two in
    let range = c.in_ok-range-in-2 in
    range_of_two (reads c.args.g.now vs) (reads c.range_value-in-2.new.g vs) c.args.parts.now range.range l two.result.first.now two.result.second.now c.word_of-from.result.now c.word_of-to-in-2.result.now _
    two.ensures c.word_of-from.ensures c.word_of-to-in-2.ensures (c.in_ok-one.ensures.value vs (small_fits l 1 (omega arith))) (range.ensures.value vs) ws e

pub range_value-requires-in_default-clause-from : goal.range_value-requires-in_default-clause-from
range_value-requires-in_default-clause-from g c =
    let l = c.args.limits.now in
    let three = c.three_values-three in
    let typed = three_typed l c.args.parts.now three.result.first.now three.result.second.now three.result.third.now c.requires.parts three.ensures in
    record { owned = word_owned typed.0.owned c.word_of-from-in_default.ensures; width = width_is l c.word_of-from-in_default.result.now three.result.first.now c.word_of-from-in_default.ensures typed.0.form }

pub range_value-requires-in_default-clause-to : goal.range_value-requires-in_default-clause-to
range_value-requires-in_default-clause-to g c =
    let l = c.args.limits.now in
    let three = c.three_values-three in
    let typed = three_typed l c.args.parts.now three.result.first.now three.result.second.now three.result.third.now c.requires.parts three.ensures in
    record { owned = word_owned typed.1.owned c.word_of-to-in_default.ensures; width = width_is l c.word_of-to-in_default.result.now three.result.second.now c.word_of-to-in_default.ensures typed.1.form }

pub range_value-requires-in_default-clause-step : goal.range_value-requires-in_default-clause-step
range_value-requires-in_default-clause-step g c =
    let l = c.args.limits.now in
    let three = c.three_values-three in
    let typed = three_typed l c.args.parts.now three.result.first.now three.result.second.now three.result.third.now c.requires.parts three.ensures in
    record { owned = word_owned typed.2.owned c.word_of-step.ensures; width = width_is l c.word_of-step.result.now three.result.third.now c.word_of-step.ensures typed.2.form }

pub returns-clause-value : goal.returns-clause-value
returns-clause-value g c vs ws e =
    let l = c.args.limits.now in
    let reads = g.L.Logic.reads in
    let three = c.three_values-three in
    let range = c.in_ok-range-in_default in
    range_of_three (reads c.args.g.now vs) (reads c.range_value-in_default.new.g vs) c.args.parts.now range.range l three.result.first.now three.result.second.now three.result.third.now
    c.word_of-from-in_default.result.now c.word_of-to-in_default.result.now c.word_of-step.result.now three.ensures c.word_of-from-in_default.ensures c.word_of-to-in_default.ensures c.word_of-step.ensures (range.ensures.value vs) ws e
