use Rattle.std.proofs.Common.{◌≡◌, Bool, true, List, map, take}
use Rattle.std.specs.List.{list_all}
use Rattle.bit_words.specs.Logic.{Extends, OwnsAll}
use Rattle.bit_words.specs.Words.{nat_read}
use Rattle.sym_values.specs.Forms.{joined, lengths}
use Rattle.input_bits.specs.Known.{is_item}
use Rattle.input_bits.proofs.item_ranges.ranged_items.Given as goal

abbrev pub invariant-loop-j : goal.invariant-loop-j
invariant-loop-j g l =
    let logic = g.L.Logic in
    record {
      extends : Extends logic.owns logic.reads logic.count l.fn.g l.g;
      owned : OwnsAll logic.owns l.g (joined l.words);
      owned_within : logic.owns l.g l.within;
      widths : lengths l.words ≡ take l.j (lengths l.items);
      within : (vs : List Bool) → logic.reads l.g vs l.within
          ≡ list_all (is_item l.param) (take (nat_read logic.reads l.fn.g vs l.len) (take l.j (map (map (logic.reads l.fn.g vs)) l.items)));
      same : (vs : List Bool) → logic.reads l.g vs l.within ≡ true
          → take (nat_read logic.reads l.fn.g vs l.len) (map (map (logic.reads l.g vs)) l.words)
          ≡ take (nat_read logic.reads l.fn.g vs l.len) (take l.j (map (map (logic.reads l.fn.g vs)) l.items));
    }
