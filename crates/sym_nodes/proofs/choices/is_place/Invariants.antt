use Rattle.std.proofs.Common.{◌≡◌, ◌<◌, ◌+◌, ◌*◌, ◌^◌, ℕ, Bool, List, take, eqb}
use Rattle.bit_words.specs.Logic.{Extends}
use Rattle.bit_words.specs.Words.{nat_read}
use Rattle.sym_nodes.proofs.choices.is_place.Given as goal

abbrev pub invariant-loop-i : goal.invariant-loop-i
invariant-loop-i g l =
    let logic = g.L.Logic in
    record {
      extends : Extends logic.owns logic.reads logic.count l.fn.g l.g;
      owned : logic.owns l.g l.alike;
      value : (low : ℕ) × (low < 2 ^ l.i) × (low + 2 ^ l.i * l.rest ≡ l.place)
          × ((vs : List Bool) → logic.reads l.g vs l.alike ≡ eqb (nat_read logic.reads l.fn.g vs (take l.i l.bits)) low);
    }
