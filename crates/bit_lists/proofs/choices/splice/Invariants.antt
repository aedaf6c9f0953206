use Rattle.std.proofs.Common.{◌≡◌, ◌<◌, ℕ, Bool, List, length, cond}
use Rattle.std.specs.Prelude.{nat_lt}
use Rattle.bit_words.specs.Logic.{Extends}
use Rattle.bit_words.specs.Words.{nat_read}
use Rattle.bit_lists.specs.Lists.{AreWordsIn, word_at, words_read}
use Rattle.bit_lists.proofs.choices.splice.Given as goal

abbrev pub invariant-loop-j : goal.invariant-loop-j
invariant-loop-j g l =
    let reads = g.L.Logic.reads in
    record {
      extends : Extends g.L.Logic.owns reads g.L.Logic.count l.fn.g l.g;
      made : AreWordsIn g.L.Logic.owns l.g g.width l.spliced;
      many : length l.spliced ≡ l.j;
      value : (vs : List Bool) (k : ℕ) → k < l.j → word_at (words_read reads l.g vs l.spliced) k
          ≡ cond (nat_lt k (nat_read reads l.fn.g vs l.number)) (word_at (words_read reads l.fn.g vs l.front) k) (word_at (words_read reads l.fn.g vs l.back) k);
    }
