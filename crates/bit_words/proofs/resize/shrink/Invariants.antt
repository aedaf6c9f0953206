use Rattle.std.proofs.Common.{◌≡◌, ◌+◌, Bool, List, length}
use Rattle.bit_words.specs.Logic.{Extends, OwnsAll}
use Rattle.bit_words.specs.Words.{int_read, Holds, OverflowsAs}
use Rattle.bit_words.proofs.resize.shrink.Given as goal

abbrev pub invariant-loop : goal.invariant-loop
invariant-loop g l =
    let logic = g.L.Logic in
    record {
      extends : Extends logic.owns logic.reads logic.count l.fn.g l.g;
      owned : OwnsAll logic.owns l.g l.number;
      owned_over : logic.owns l.g l.over;
      width : length l.number + l.counter ≡ length l.word;
      over : (vs : List Bool) → OverflowsAs (logic.reads l.g vs l.over) (length l.number) (int_read logic.reads l.fn.g vs l.word);
      value : (vs : List Bool) → Holds (int_read logic.reads l.g vs l.number) (length l.number) (int_read logic.reads l.fn.g vs l.word);
    }
