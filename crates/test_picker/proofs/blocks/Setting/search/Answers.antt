-- one block more, and where no input changes anything
use Rattle.std.proofs.Common.{◌∙◌, ◌*◌, ◌+◌, ◌<◌, arith, drop, length, refl, sym, take}
use Rattle.std.proofs.lemmas.List.{length-take-le}
use Rattle.input_space.specs.Inputs.{inputs}
use Rattle.test_picker.specs.Settings.{bounds_of, reference_of, routines_in}
use Rattle.test_picker.proofs.Searches.{found_next, settled}
use Rattle.test_picker.proofs.blocks.Setting.search.Goals as goal

pub loop-k-preserved : goal.loop-k-preserved
loop-k-preserved c =
    let s = c.args.self.now in
    let all = inputs s.bounds.now.params in
    let k = c.loop-k.k in
    let below : k * 64 < length all = omega arith in
    let long = length-take-le (k * 64) all (omega (arith, below)) in
    found_next (bounds_of s) (reference_of s) (routines_in c.args.programs.now) all k ((k + 1) * 64)
    c.in_ok-found-2.found refl
    (c.in_ok-found-2.ensures (take (k * 64) all) (take 64 (drop (k * 64) all)) long
    c.in_ok-block.ensures.inputs c.loop-k.invariant)

pub returns-then-is_settled : goal.returns-then-is_settled
returns-then-is_settled c =
    let s = c.args.self.now in
    let all = inputs s.bounds.now.params in
    let k = c.loop-k.k in
    let below : k * 64 < length all = omega arith in
    let long = length-take-le (k * 64) all (omega (arith, below)) in
    let b = bounds_of s in
    let ps = routines_in c.args.programs.now in
    settled b (reference_of s) ps all ((k + 1) * 64) c.in_ok-found-2.found
    (sym c.is_settled.ensures ∙ c.if-is_settled.true)
    (found_next b (reference_of s) ps all k ((k + 1) * 64) c.in_ok-found-2.found refl
    (c.in_ok-found-2.ensures (take (k * 64) all) (take 64 (drop (k * 64) all)) long
    c.in_ok-block.ensures.inputs c.loop-k.invariant))
