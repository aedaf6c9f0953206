use Rattle.std.proofs.Common.{◌≡◌, ◌<◌, ℕ, Bool, List, length, cond}
use Rattle.bit_words.specs.Logic.{Extends}
use Rattle.bit_lists.specs.Lists.{AreWordsIn, word_at, words_read}
use Rattle.bit_lists.specs.Moves.{source}
use Rattle.bit_lists.proofs.shifts.moved_where.Given as goal

abbrev pub invariant-loop-j : goal.invariant-loop-j
invariant-loop-j g l =
    let reads = g.L.Logic.reads in
    record {
      extends : Extends g.L.Logic.owns reads g.L.Logic.count l.fn.g l.g;
      made : AreWordsIn g.L.Logic.owns l.g g.width l.moved;
      many : length l.moved ≡ l.j;
      value : (vs : List Bool) (k : ℕ) → k < l.j → word_at (words_read reads l.g vs l.moved) k
          ≡ cond (reads l.fn.g vs l.test) (word_at (words_read reads l.fn.g vs l.items) (source l.step.direction l.step.by (length l.items) k)) (word_at (words_read reads l.fn.g vs l.items) k);
    }
