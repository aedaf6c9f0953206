use Rattle.std.proofs.Common.{◌≡◌, ◌+◌, Bool, List, ◌&&◌, not, ◌||◌, eqb, ltb}
use Rattle.bit_words.specs.Logic.{Extends}
use Rattle.bit_words.specs.Words.{nat_of, nat_read}
use Rattle.bit_lists.specs.Lists.{IsProper, word_at, words_read}
use Rattle.bit_lists.proofs.Everywhere.{every}
use Rattle.bit_lists.proofs.parts.front_at.Given as goal

abbrev pub invariant-loop-j : goal.invariant-loop-j
invariant-loop-j g l =
    let reads = g.L.Logic.reads in
    record {
      extends : Extends g.L.Logic.owns reads g.L.Logic.count l.fn.g l.g;
      owned : g.L.Logic.owns l.g l.front;
      value : (vs : List Bool) → IsProper reads l.fn.g vs l.text.len.now l.text.items.now
          → reads l.g vs l.front ≡ every l.j (λ k. not (ltb k (nat_read reads l.fn.g vs l.part.len.now))
          || (ltb (l.start + k) (nat_read reads l.fn.g vs l.text.len.now) && eqb (nat_of (word_at (words_read reads l.fn.g vs l.part.items.now) k)) (nat_of (word_at (words_read reads l.fn.g vs l.text.items.now) (l.start + k)))));
    }

abbrev pub ghost-agrees_from : goal.ghost-agrees_from
ghost-agrees_from g a = g.width
