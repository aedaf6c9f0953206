use Rattle.std.proofs.Common.{◌≡◌, ◌+◌, Bool, List, length}
use Rattle.bit_words.specs.Logic.{OwnsAll}
use Rattle.bit_words.specs.Words.{int_read}
use Rattle.bit_words.proofs.resize.widen.Given as goal

abbrev pub invariant-loop : goal.invariant-loop
invariant-loop g l =
    let logic = g.L.Logic in
    record {
      owned : OwnsAll logic.owns l.g l.wide;
      width : length l.wide ≡ length l.word + l.counter;
      value : (vs : List Bool) → int_read logic.reads l.g vs l.wide ≡ int_read logic.reads l.g vs l.word;
    }
