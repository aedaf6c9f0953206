use Rattle.std.proofs.Common.{◌≡◌, Bool, List, map, drop}
use Rattle.mpy_tree.specs.Operations.{is_front}
use Rattle.bit_words.specs.Logic.{Extends}
use Rattle.bit_words.specs.Words.{nat_of}
use Rattle.bit_lists.specs.Lists.{IsProper, list_read}
use Rattle.bit_lists.proofs.Everywhere.{some}
use Rattle.bit_lists.proofs.parts.has_part.Given as goal

abbrev pub invariant-loop-j : goal.invariant-loop-j
invariant-loop-j g l =
    let reads = g.L.Logic.reads in
    record {
      extends : Extends g.L.Logic.owns reads g.L.Logic.count l.fn.g l.g;
      owned : g.L.Logic.owns l.g l.found;
      value : (vs : List Bool) → IsProper reads l.fn.g vs l.part.len.now l.part.items.now → IsProper reads l.fn.g vs l.text.len.now l.text.items.now
          → reads l.g vs l.found ≡ some l.j (λ s. is_front (map nat_of (list_read reads l.fn.g vs l.part.len.now l.part.items.now)) (drop s (map nat_of (list_read reads l.fn.g vs l.text.len.now l.text.items.now))));
    }

abbrev pub ghost-front_at : goal.ghost-front_at
ghost-front_at g a = g.width
