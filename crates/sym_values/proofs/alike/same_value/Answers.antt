use Rattle.std.proofs.Common.{◌∙◌}
use Rattle.bit_words.specs.Logic.{extends_trans}
use Rattle.sym_values.proofs.Ends.{values_alike}
use Rattle.sym_values.proofs.alike.same_value.Goals as goal

pub returns-clause-value : goal.returns-clause-value
returns-clause-value g c vs v w h k =
    let reads = g.L.Logic.reads c.args.g.now vs in
    let one = c.equal_bit.ensures.extends in
    let two = c.and.ensures.extends in
    let three = c.and-2.ensures.extends in
    let four = c.and-3.ensures.extends in
    let far = extends_trans (extends_trans one two) three in
    let left = one.same _ c.requires.left_has vs in
    let right = one.same _ c.requires.right_has vs in
    let both = rw (left, right) at (c.in_ok-both.ensures.value vs) in
    let equal = two.same _ c.in_ok-equal.ensures.owned vs in
    let first = four.same _ c.in_ok-one.ensures.owned vs ∙ rw (both, equal) at (c.in_ok-one.ensures.value vs) in
    let no_left = rw (far.same _ c.requires.left_has vs) at (c.not-not_a.ensures.value vs) in
    let no_right = rw (far.same _ c.requires.right_has vs) at (c.not-not_b.ensures.value vs) in
    let second = rw (no_left, no_right) at (c.in_ok-neither.ensures.value vs) in
    values_alike reads c.args.a.now c.args.b.now _ _ _ _ v w c.in-Some-Some.is-0 c.in-Some-Some.is-1 (λ p q. c.in_ok-equal.ensures.value vs p q) (rw (first, second) at (c.in_ok-alike.ensures.value vs)) h k
