use Rattle.std.proofs.Common.{◌≡◌, Bool, true, List, length, map, take}
use Rattle.bit_words.specs.Logic.{Extends, OwnsAll}
use Rattle.bit_words.specs.Words.{nat_read}
use Rattle.input_ranges.specs.Alphabets.{is_among}
use Rattle.input_ranges.proofs.alphabets.known_digits.Given as goal

abbrev pub invariant-loop-place : goal.invariant-loop-place
invariant-loop-place g l =
    let logic = g.L.Logic in
    record {
      extends : Extends logic.owns logic.reads logic.count l.fn.g l.g;
      owned : OwnsAll logic.owns l.g l.bits;
      owned_within : logic.owns l.g l.within;
      width : length l.bits ≡ l.place;
      same : (vs : List Bool) → logic.reads l.g vs l.within ≡ true
          → map (logic.reads l.g vs) l.bits ≡ take l.place (map (logic.reads l.fn.g vs) l.word);
      right : (vs : List Bool) → is_among l.alphabet (nat_read logic.reads l.fn.g vs l.word) ≡ true → logic.reads l.g vs l.within ≡ true;
    }
