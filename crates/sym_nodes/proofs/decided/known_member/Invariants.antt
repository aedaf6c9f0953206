use Rattle.std.proofs.Common.{◌≡◌, Bool, List}
use Rattle.bit_words.specs.Logic.{Extends}
use Rattle.bit_words.specs.Words.{nat_read}
use Rattle.sym_nodes.specs.Members.{place_chosen}
use Rattle.sym_nodes.proofs.decided.known_member.Given as goal

-- none of the members so far is the one
abbrev pub invariant-loop-i : goal.invariant-loop-i
invariant-loop-i g l =
    let reads = g.L.Logic.reads in
    record {
      extends : Extends g.L.Logic.owns reads g.L.Logic.count l.fn.g l.g;
      value : (vs : List Bool) → place_chosen (nat_read reads l.fn.g vs l.member) l.i ≡ 0;
    }
