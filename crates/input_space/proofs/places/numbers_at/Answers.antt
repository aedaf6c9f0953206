use Rattle.std.proofs.Common.{◌+◌, ◌-◌, FitsSigned, rules, w32, arith, sym, ◌∙◌}
use Rattle.std.proofs.lemmas.Int.{to_z-of_z}
use Rattle.input_space.specs.Inputs.{numbers, span}
use Rattle.input_space.proofs.Orders.{elements_first, elements_left, elements_next, elements_last}
use Rattle.input_space.proofs.Totals.{length_numbers}
use Rattle.input_space.proofs.places.numbers_at.Goals as goal

pub loop-k-init : goal.loop-k-init
loop-k-init c =
    let f : FitsSigned w32 c.args.low = c.ranges.low in
    let g : FitsSigned w32 c.args.high = c.ranges.high in
    let xs = numbers c.args.low c.args.high in
    simp to_z-of_z (rw c.new-found.ensures.items (elements_first 1000000000000 xs c.args.len _ (span c.args.low c.args.high) c.args.i (sym (length_numbers c.args.low c.args.high)) (omega arith) c.requires.within c.requires.counted))

pub split-parts-requires : goal.split-parts-requires
split-parts-requires c =
    let f : FitsSigned w32 c.args.low = c.ranges.low in
    let g : FitsSigned w32 c.args.high = c.ranges.high in
    let xs = numbers c.args.low c.args.high in
    let h = simp to_z-of_z at c.loop-k.invariant in
    let base = simp to_z-of_z at c.span-base.ensures.same in
    let r = elements_left 1000000000000 _ _ _ xs _ c.span-base.result _ (base ∙ sym (length_numbers c.args.low c.args.high)) h in
    record { some = omega arith; within = r.within; counted = r.few }

pub loop-k-preserved : goal.loop-k-preserved
loop-k-preserved c =
    let f : FitsSigned w32 c.args.low = c.ranges.low in
    let g : FitsSigned w32 c.args.high = c.ranges.high in
    let r : FitsSigned w32 c.number_at.result = search rules in
    let xs = numbers c.args.low c.args.high in
    let h = simp to_z-of_z at c.loop-k.invariant in
    let base = simp to_z-of_z at c.span-base.ensures.same in
    let at = simp to_z-of_z at c.number_at.ensures in
    let items = simp to_z-of_z at c.in_ok-push.ensures.items in
    let place = c.split-parts.ensures in
    simp to_z-of_z
    (rw items
    (elements_next 1000000000000 _ _ _ xs (c.args.len - c.loop-k.k) (c.args.len - c.loop-k.k - 1) (c.args.len - (c.loop-k.k + 1)) c.span-base.result _ _ _ _ (omega arith) (omega arith) (base ∙ sym (length_numbers c.args.low c.args.high)) h at place.others place.place))

pub returns : goal.returns
returns c =
    let f : FitsSigned w32 c.args.low = c.ranges.low in
    let g : FitsSigned w32 c.args.high = c.ranges.high in
    let xs = numbers c.args.low c.args.high in
    let h = simp to_z-of_z at c.loop-k.invariant in
    elements_last 1000000000000 _ _ _ xs (c.args.len - c.loop-k.k) _ (omega arith) h
