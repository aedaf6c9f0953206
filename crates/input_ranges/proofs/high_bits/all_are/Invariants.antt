use Rattle.std.proofs.Common.{◌≡◌, Bool, List, map, take}
use Rattle.std.specs.List.{list_all}
use Rattle.bit_words.specs.Logic.{Extends}
use Rattle.input_ranges.specs.Bits.{is_bit}
use Rattle.input_ranges.proofs.high_bits.all_are.Given as goal

abbrev pub invariant-loop-i : goal.invariant-loop-i
invariant-loop-i g l =
    let logic = g.L.Logic in
    record {
      extends : Extends logic.owns logic.reads logic.count l.fn.g l.g;
      owned : logic.owns l.g l.all;
      value : (vs : List Bool) → logic.reads l.g vs l.all
          ≡ list_all (is_bit (logic.reads l.fn.g vs l.known)) (map (logic.reads l.fn.g vs) (take l.i l.bits));
    }
