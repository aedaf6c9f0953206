use Rattle.std.proofs.Common.{◌≡◌, ◌∙◌, ap, arith, map, refl, sym}
use Rattle.std.proofs.lemmas.List.{take_all}
use Rattle.std.proofs.lemmas.Option.{slice_get_read}
use Rattle.std.proofs.lemmas.Simd.{map-map}
use Rattle.choice_tree.specs.Choices.{member_of}
use Rattle.choice_tree.specs.EditViews.{pick_number}
use Rattle.known_values.proofs.Items.{item_known}
use Rattle.selection_numbers.specs.Live.{entries}
use Rattle.pick_bits.proofs.Chosen.{choice_at}
use Rattle.pick_bits.proofs.decode.live_part.Goals as goal

pub loop-edit-preserved : goal.loop-edit-preserved
loop-edit-preserved c =
    let m = member_of c.args.all.now in
    let es = c.deref-edit-items.result.now in
    let i = c.loop-edit.edit-index in
    let e = c.edit-item.result in
    let at = slice_get_read es _ i e refl (omega arith) c.edit-item.is in
    let one : choice_at m e ≡ record { pick = e.pick; member = c.member.result } =
    ap (λ k. record { pick = e.pick; member = k }) (sym c.member.ensures) in
    sym (item_known (choice_at m) es i e c.loop-edit.chosen.items c.push.new.self.items _ at
    (sym c.loop-edit.invariant) one c.in_ok-push.ensures.items)

pub returns : goal.returns
returns c =
    let m = member_of c.args.all.now in
    let es = c.deref-edit-items.result.now in
    c.from_vec.ensures ∙ c.loop-edit.invariant
    ∙ ap (map (choice_at m)) (take_all c.loop-edit.edit-index es (omega arith))
    ∙ sym (map-map (λ p. record { pick = p; member = m p }) pick_number es)
    ∙ ap (λ ds. entries m (map pick_number ds)) c.deref-edit-items.ensures.value
    ∙ ap (entries m) c.in_ok-replaced.ensures.picks
