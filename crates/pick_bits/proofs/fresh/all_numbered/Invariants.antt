use Rattle.std.proofs.Common.{◌≡◌, ◌&&◌, Bool, List, drop, map}
use Rattle.bit_words.specs.Logic.{Extends}
use Rattle.pick_bits.specs.MemberWords.{all_numbered}
use Rattle.pick_bits.proofs.fresh.all_numbered.Given as goal

-- all are members where those so far are, and those that are left
abbrev pub invariant-loop-pick : goal.invariant-loop-pick
invariant-loop-pick g l =
    let logic = g.L.Logic in
    record {
      extends : Extends logic.owns logic.reads logic.count l.fn.g l.g;
      owned : logic.owns l.g l.within;
      value : (vs : List Bool) → all_numbered l.counts (map (map (logic.reads l.fn.g vs)) l.numbers)
          ≡ (logic.reads l.g vs l.within
          && all_numbered (drop l.pick l.counts)
          (map (map (logic.reads l.fn.g vs)) (drop l.pick l.numbers)));
    }
