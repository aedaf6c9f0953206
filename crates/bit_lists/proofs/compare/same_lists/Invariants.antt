use Rattle.std.proofs.Common.{◌≡◌, Bool, List, not, ◌&&◌, ◌||◌, eqb, ltb}
use Rattle.bit_words.specs.Logic.{Extends}
use Rattle.bit_words.specs.Words.{nat_of, nat_read}
use Rattle.bit_lists.specs.Lists.{word_at, words_read}
use Rattle.bit_lists.proofs.Everywhere.{every}
use Rattle.bit_lists.proofs.compare.same_lists.Given as goal

abbrev pub invariant-loop-j : goal.invariant-loop-j
invariant-loop-j g l =
    let reads = g.L.Logic.reads in
    record {
      extends : Extends g.L.Logic.owns reads g.L.Logic.count l.fn.g l.g;
      owned : g.L.Logic.owns l.g l.alike;
      value : (vs : List Bool) → reads l.g vs l.alike ≡ (eqb (nat_read reads l.fn.g vs l.a.len.now) (nat_read reads l.fn.g vs l.b.len.now)
          && every l.j (λ k. not (ltb k (nat_read reads l.fn.g vs l.a.len.now)) || eqb (nat_of (word_at (words_read reads l.fn.g vs l.a.items.now) k)) (nat_of (word_at (words_read reads l.fn.g vs l.b.items.now) k))));
    }
