use Rattle.std.proofs.Common.{◌∙◌, ◌+◌, ◌++◌, ◌≤◌, ◌^◌, ap, arith, drop, sym}
use Rattle.std.specs.Prelude.{option_map}
use Rattle.pick_bits.specs.MemberWords.{chosen_from}
use Rattle.input_space.specs.SelectionBits.{all_member_bits}
use Rattle.pick_bits.proofs.MemberWords.{drop_next}
use Rattle.pick_bits.proofs.Decoding.{none_left, one_less}
use Rattle.pick_bits.proofs.Widths.{few_bits}
use Rattle.pick_bits.proofs.decode.chosen_members.Goals as goal

pub natural-member-requires : goal.natural-member-requires
natural-member-requires c =
    let n = c.in_ok-members.members in
    let next = drop_next c.args.counts.now c.loop-pick.pick n c.in_ok-members.ensures.many in
    let many = ap all_member_bits next in
    let width = c.member_bits-width.ensures.value in
    let few : n ≤ 2 ^ 31 = c.in_ok-members.ensures.few in
    let place = c.loop-pick.invariant.place in
    let within = c.requires.within in
    record {
      short = few_bits n c.member_bits-width.result 31 c.member_bits-width.ensures.least few;
      within = omega arith;
      few = c.requires.few;
    }

pub returns-then-member-members : goal.returns-then-member-members
returns-then-member-members c =
    let i = c.loop-pick.pick in
    let n = c.in_ok-members.members in
    let next = drop_next c.args.counts.now i n c.in_ok-members.ensures.many in
    let word = c.natural-member.ensures.value in
    let vs = c.args.truths.now in
    let none =
    none_left vs (drop i c.args.counts.now) (drop (i + 1) c.args.counts.now) n c.loop-pick.place
    c.natural-member.result next
    (rw c.member_bits-width.ensures.value at word) (omega arith) in
    sym (c.loop-pick.invariant.whole
    ∙ ap (option_map (λ is. c.loop-pick.chosen.items ++ chosen_from i is)) none)

pub loop-pick-preserved : goal.loop-pick-preserved
loop-pick-preserved c =
    let i = c.loop-pick.pick in
    let n = c.in_ok-members.members in
    let next = drop_next c.args.counts.now i n c.in_ok-members.ensures.many in
    let many = ap all_member_bits next in
    let width = c.member_bits-width.ensures.value in
    let word = c.natural-member.ensures.value in
    let before = c.loop-pick.invariant in
    let put = c.in_ok-push_member.ensures in
    record {
      place = omega arith;
      whole = before.whole
          ∙ one_less c.args.truths.now (drop i c.args.counts.now) (drop (i + 1) c.args.counts.now)
          n c.loop-pick.place c.natural-member.result next (rw width at word)
          i (i + 1) _ c.loop-pick.chosen.items c.push_member.new.chosen.items (omega arith)
          (omega arith) (ap (λ k. c.loop-pick.place + k) width) put;
    }

pub overflow_add-place : goal.overflow_add-place
overflow_add-place c =
    let next =
    drop_next c.args.counts.now c.loop-pick.pick c.in_ok-members.members
    c.in_ok-members.ensures.many in
    let many = ap all_member_bits next in
    let width = c.member_bits-width.ensures.value in
    let place = c.loop-pick.invariant.place in
    let within = c.requires.within in
    let few = c.requires.few in
    omega arith
