use Rattle.std.proofs.Common.{◌≡◌, ℕ, ◌<◌, ◌^◌, ◌-◌}
use Rattle.pick_bits.proofs.members.member_bits.Given as goal

abbrev pub invariant-loop-reach : goal.invariant-loop-reach
invariant-loop-reach l = record {
  reach : l.reach ≡ 2 ^ l.count;
  below : (b : ℕ) → b < l.count → 2 ^ b < l.members;
}

abbrev pub decreases-loop-reach : goal.decreases-loop-reach
decreases-loop-reach l = l.members - l.reach
