use Rattle.std.proofs.Common.{◌≡◌, ◌+◌, ◌++◌, drop}
use Rattle.std.specs.Prelude.{option_map}
use Rattle.pick_bits.specs.MemberWords.{chosen_from}
use Rattle.input_space.specs.SelectionBits.{all_member_bits, members_at}
use Rattle.pick_bits.proofs.decode.chosen_members.Given as goal

-- what is spelled is what was chosen and what is left
abbrev pub invariant-loop-pick : goal.invariant-loop-pick
invariant-loop-pick l =
    let left = drop l.pick l.counts in
    record {
      place : l.place + all_member_bits left ≡ l.start + all_member_bits l.counts;
      whole : option_map (chosen_from 0) (members_at l.counts l.truths l.start)
          ≡ option_map (λ is. l.chosen.items ++ chosen_from l.pick is)
          (members_at left l.truths l.place);
    }
