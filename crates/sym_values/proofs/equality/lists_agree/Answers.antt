use Rattle.std.proofs.Common.{◌∙◌}
use Rattle.sym_values.proofs.Held.{reads_kept, words_kept}
use Rattle.sym_values.proofs.equality.lists_agree.Goals as goal

pub returns-clause-value : goal.returns-clause-value
returns-clause-value g c vs =
    let one = c.equal_bits.ensures.extends in
    let two = c.words_agree.ensures.extends in
    let first = two.same _ c.in_ok-one_length.ensures.owned vs ∙ rw (c.as_slice.ensures, c.as_slice-2.ensures) at (c.in_ok-one_length.ensures.value vs) in
    let len = reads_kept one c.requires.left_len vs in
    let left = words_kept one c.args.xs.now c.requires.left vs in
    let right = words_kept one c.args.ys.now c.requires.right vs in
    let second = rw (len, left, right) at (c.in_ok-same.ensures.value vs) in
    rw (first, second) at (c.in_ok-both.ensures.value vs)
