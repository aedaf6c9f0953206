use Rattle.std.proofs.Common.{◌≡◌, Bool, List, map, take}
use Rattle.bit_words.specs.Logic.{OwnsAll}
use Rattle.bit_words.specs.Later.{AddsVariables}
use Rattle.sym_values.specs.Forms.{joined}
use Rattle.pick_bits.specs.MemberWords.{member_words}
use Rattle.input_space.specs.SelectionBits.{all_member_bits}
use Rattle.pick_bits.proofs.fresh.fresh_numbers.Given as goal

abbrev pub invariant-loop-pick : goal.invariant-loop-pick
invariant-loop-pick g l =
    let v = g.V.Logic in
    let made = take l.pick l.counts in
    record {
      adds : AddsVariables v.owns v.reads v.count (all_member_bits made) l.fn.g l.g;
      owned : OwnsAll v.owns l.g (joined l.numbers.items);
      value : (vs : List Bool)
          → map (map (v.reads l.g vs)) l.numbers.items ≡ member_words made vs (v.count l.fn.g);
    }
