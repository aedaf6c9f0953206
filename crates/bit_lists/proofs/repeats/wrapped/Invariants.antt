use Rattle.std.proofs.Common.{◌≡◌, ◌<◌, ◌≤◌, ℕ, Bool, List, length}
use Rattle.bit_words.specs.Logic.{Extends}
use Rattle.bit_words.specs.Words.{nat_read}
use Rattle.bit_lists.specs.Lists.{AreWordsIn, word_at, words_read}
use Rattle.bit_lists.specs.Repeats.{wrapped_place}
use Rattle.bit_lists.proofs.repeats.wrapped.Given as goal

abbrev pub invariant-loop-count : goal.invariant-loop-count
invariant-loop-count g l =
    let reads = g.L.Logic.reads in
    record {
      extends : Extends g.L.Logic.owns reads g.L.Logic.count l.fn.g l.g;
      made : AreWordsIn g.L.Logic.owns l.g g.width l.wrapped;
      many : length l.wrapped ≡ length l.items;
      some : 1 ≤ l.count;
      value : (vs : List Bool) (k : ℕ) → k < length l.items → 0 < nat_read reads l.fn.g vs l.len
          → word_at (words_read reads l.g vs l.wrapped) k ≡ word_at (words_read reads l.fn.g vs l.items) (wrapped_place l.count (nat_read reads l.fn.g vs l.len) k);
    }

abbrev pub ghost-wrapped_where : goal.ghost-wrapped_where
ghost-wrapped_where g a = g.width
