use Rattle.std.proofs.Common.{◌≡◌, ◌<◌, ◌≤◌, Bool, List, false, length, map}
use Rattle.std.specs.Prelude.{replicate}
use Rattle.bit_words.specs.Logic.{Extends}
use Rattle.bit_words.specs.Results.{IsWordIn}
use Rattle.bit_words.specs.Words.{nat_read}
use Rattle.bit_lists.specs.Lists.{word_at, words_read}
use Rattle.bit_lists.proofs.choices.item_at.Given as goal

abbrev pub invariant-loop-j : goal.invariant-loop-j
invariant-loop-j g l =
    let reads = g.L.Logic.reads in
    record {
      extends : Extends g.L.Logic.owns reads g.L.Logic.count l.initial.g l.g;
      made : IsWordIn g.L.Logic.owns l.g g.width l.item;
      value : (vs : List Bool) → nat_read reads l.fn.g vs l.number < length l.items
          → (nat_read reads l.fn.g vs l.number < l.j → map (reads l.g vs) l.item ≡ word_at (words_read reads l.fn.g vs l.items) (nat_read reads l.fn.g vs l.number))
          × (l.j ≤ nat_read reads l.fn.g vs l.number → map (reads l.g vs) l.item ≡ replicate g.width false);
    }
