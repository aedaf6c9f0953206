use Rattle.std.proofs.Common.{◌≡◌, ◌≤◌, ◌+◌, Bool, List, length, true, false}
use Rattle.mpy_tree.specs.Operations.{before, is_zero}
use Rattle.bit_words.specs.Logic.{Extends}
use Rattle.bit_words.specs.Results.{IsWordIn}
use Rattle.bit_words.specs.Words.{fits, int_read, nat_read}
use Rattle.bit_lists.specs.Lists.{AreWordsIn, words_read}
use Rattle.bit_lists.proofs.Ranging.{Listed}
use Rattle.bit_lists.proofs.ranges.listed.Given as goal

abbrev pub invariant-loop-k : goal.invariant-loop-k
invariant-loop-k g l =
    let reads = g.L.Logic.reads in
    record {
      extends : Extends g.L.Logic.owns reads g.L.Logic.count l.fn.g l.g;
      number : IsWordIn g.L.Logic.owns l.g (g.width + 1) l.at.number;
      alive : g.L.Logic.owns l.g l.at.alive;
      len : IsWordIn g.L.Logic.owns l.g 5 l.len;
      made : AreWordsIn g.L.Logic.owns l.g g.width l.items;
      many : length l.items ≡ l.k;
      within : (vs : List Bool) → nat_read reads l.g vs l.len ≤ l.k;
      value : (vs : List Bool) → is_zero (int_read reads l.fn.g vs l.course.step) ≡ false
          → fits g.width (int_read reads l.fn.g vs l.fn.first.number) ≡ true
          → fits g.width (int_read reads l.fn.g vs l.course.to) ≡ true
          → fits g.width (int_read reads l.fn.g vs l.course.step) ≡ true
          → reads l.fn.g vs l.fn.first.alive ≡ before (int_read reads l.fn.g vs l.course.step) (int_read reads l.fn.g vs l.fn.first.number) (int_read reads l.fn.g vs l.course.to)
          → Listed l.k (int_read reads l.fn.g vs l.fn.first.number) (int_read reads l.fn.g vs l.course.to) (int_read reads l.fn.g vs l.course.step)
          (int_read reads l.g vs l.at.number) (reads l.g vs l.at.alive) (nat_read reads l.g vs l.len) (words_read reads l.g vs l.items);
    }
