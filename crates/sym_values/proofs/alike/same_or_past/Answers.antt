use Rattle.std.proofs.Common.{◌∙◌}
use Rattle.bit_words.specs.Later.{owns_both}
use Rattle.bit_words.specs.Logic.{extends_keeps}
use Rattle.sym_values.specs.DoneLater.{slot_later}
use Rattle.sym_values.proofs.Ends.{as_another, here_is, past_is}
use Rattle.sym_values.proofs.alike.same_or_past.Goals as goal

pub returns-clause-past : goal.returns-clause-past
returns-clause-past g c vs h =
    let past = c.same_slot.ensures.extends.same _ c.in_ok-past.ensures.owned vs ∙ rw c.as_slice.ensures at (c.in_ok-past.ensures.value vs) in
    past_is _ _ _ _ _ past (c.in_ok-fine.ensures.value vs) h

pub returns-clause-value : goal.returns-clause-value
returns-clause-value g c vs v w h p q =
    let one = extends_keeps c.less_number.ensures.extends in
    let past = c.same_slot.ensures.extends.same _ c.in_ok-past.ensures.owned vs ∙ rw c.as_slice.ensures at (c.in_ok-past.ensures.value vs) in
    let left = slot_later one c.args.limits.now c.args.a.now (owns_both c.requires.left.owned_kind c.requires.left.owned_bits) vs in
    let right = slot_later one c.args.limits.now c.args.b.now (owns_both c.requires.right.owned_kind c.requires.right.owned_bits) vs in
    as_another _ _ (here_is _ _ _ _ _ past (c.in_ok-fine.ensures.value vs) h) (c.in_ok-here.ensures.value vs v w (left ∙ p) (right ∙ q))
