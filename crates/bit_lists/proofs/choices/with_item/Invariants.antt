use Rattle.std.proofs.Common.{◌≡◌, ◌<◌, ℕ, Bool, List, length, cond, map}
use Rattle.std.specs.Prelude.{nat_eq}
use Rattle.bit_words.specs.Logic.{Extends}
use Rattle.bit_words.specs.Words.{nat_read}
use Rattle.bit_lists.specs.Lists.{AreWordsIn, word_at, words_read}
use Rattle.bit_lists.proofs.choices.with_item.Given as goal

abbrev pub invariant-loop-j : goal.invariant-loop-j
invariant-loop-j g l =
    let reads = g.L.Logic.reads in
    record {
      extends : Extends g.L.Logic.owns reads g.L.Logic.count l.initial.g l.g;
      made : AreWordsIn g.L.Logic.owns l.g g.width l.changed;
      many : length l.changed ≡ l.j;
      value : (vs : List Bool) → nat_read reads l.fn.g vs l.number < length l.items → (k : ℕ) → k < l.j → word_at (words_read reads l.g vs l.changed) k
          ≡ cond (nat_eq k (nat_read reads l.fn.g vs l.number)) (map (reads l.fn.g vs) l.word) (word_at (words_read reads l.fn.g vs l.items) k);
    }
