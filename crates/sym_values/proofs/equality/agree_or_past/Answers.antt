use Rattle.std.proofs.Common.{◌∙◌}
use Rattle.sym_values.proofs.Held.{reads_kept}
use Rattle.sym_values.proofs.equality.agree_or_past.Goals as goal

pub returns-clause-value : goal.returns-clause-value
returns-clause-value g c vs =
    let one = c.less_number.ensures.extends in
    let two = c.words_equal.ensures.extends in
    let past = two.same _ c.in_ok-past.ensures.owned vs ∙ rw c.as_slice.ensures at (c.in_ok-past.ensures.value vs) in
    let left = reads_kept one c.requires.left vs in
    let right = reads_kept one c.requires.right vs in
    let same = rw (left, right) at (c.in_ok-same.ensures.value vs) in
    rw (past, same) at (c.in_ok-fine.ensures.value vs)
