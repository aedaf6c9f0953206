use Rattle.std.proofs.Common.{◌≡◌, ◌<◌, ◌%◌, ℕ, Bool, List, length, cond}
use Rattle.bit_words.specs.Logic.{Extends}
use Rattle.bit_lists.specs.Lists.{AreWordsIn, word_at, words_read}
use Rattle.bit_lists.proofs.repeats.wrapped_where.Given as goal

abbrev pub invariant-loop-j : goal.invariant-loop-j
invariant-loop-j g l =
    let reads = g.L.Logic.reads in
    record {
      extends : Extends g.L.Logic.owns reads g.L.Logic.count l.fn.g l.g;
      made : AreWordsIn g.L.Logic.owns l.g g.width l.wrapped;
      many : length l.wrapped ≡ l.j;
      value : (vs : List Bool) (k : ℕ) → k < l.j → word_at (words_read reads l.g vs l.wrapped) k
          ≡ cond (reads l.fn.g vs l.lap.0) (word_at (words_read reads l.fn.g vs l.items) (k % l.lap.1.0)) (word_at (words_read reads l.fn.g vs l.others) k);
    }
