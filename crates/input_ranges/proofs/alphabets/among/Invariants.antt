use Rattle.std.proofs.Common.{◌≡◌, Bool, List, take}
use Rattle.bit_words.specs.Logic.{Extends}
use Rattle.bit_words.specs.Words.{nat_read}
use Rattle.input_ranges.specs.Alphabets.{is_among}
use Rattle.input_ranges.proofs.alphabets.among.Given as goal

abbrev pub invariant-loop-character : goal.invariant-loop-character
invariant-loop-character g l =
    let logic = g.L.Logic in
    record {
      extends : Extends logic.owns logic.reads logic.count l.fn.g l.g;
      owned : logic.owns l.g l.any;
      value : (vs : List Bool) → logic.reads l.g vs l.any ≡ is_among (take l.character-index l.alphabet) (nat_read logic.reads l.fn.g vs l.word);
    }
