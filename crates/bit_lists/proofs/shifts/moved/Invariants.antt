use Rattle.std.proofs.Common.{◌≡◌, ◌^◌, Bool, List, length, take}
use Rattle.bit_words.specs.Logic.{Extends}
use Rattle.bit_words.specs.Words.{nat_read}
use Rattle.bit_lists.specs.Lists.{AreWordsIn, words_read}
use Rattle.bit_lists.specs.Moves.{IsMoved}
use Rattle.bit_lists.proofs.shifts.moved.Given as goal

abbrev pub invariant-loop-i : goal.invariant-loop-i
invariant-loop-i g l =
    let reads = g.L.Logic.reads in
    record {
      by : l.by ≡ 2 ^ l.i;
      extends : Extends g.L.Logic.owns reads g.L.Logic.count l.fn.g l.g;
      made : AreWordsIn g.L.Logic.owns l.g g.width l.moved;
      many : length l.moved ≡ length l.items;
      value : (vs : List Bool) → IsMoved l.direction (nat_read reads l.fn.g vs (take l.i l.number)) (words_read reads l.fn.g vs l.items) (words_read reads l.g vs l.moved);
    }

abbrev pub ghost-moved_where : goal.ghost-moved_where
ghost-moved_where g a = g.width
