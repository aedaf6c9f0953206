use Rattle.std.proofs.Common.{◌≡◌, ◌<◌, ℕ, Bool, List, length, true, get_or}
use Rattle.std.specs.Prelude.{pos}
use Rattle.bit_words.specs.Words.{fits, int_of}
use Rattle.bit_lists.specs.Lists.{AreWordsIn, word_at, words_read}
use Rattle.bit_lists.proofs.constants.constant_list.Given as goal

abbrev pub invariant-loop-j : goal.invariant-loop-j
invariant-loop-j g l =
    let reads = g.L.Logic.reads in
    record {
      made : AreWordsIn g.L.Logic.owns l.g l.width l.items;
      many : length l.items ≡ l.j;
      value : (vs : List Bool) (k : ℕ) → k < l.j → fits l.width (get_or l.numbers k (pos 0)) ≡ true → int_of (word_at (words_read reads l.g vs l.items) k) ≡ get_or l.numbers k (pos 0);
    }
