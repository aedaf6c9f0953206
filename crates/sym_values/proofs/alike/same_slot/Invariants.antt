use Rattle.std.proofs.Common.{◌≡◌, ◌≤◌, ◌<◌, Bool, false, List, map}
use Rattle.std.specs.Prelude.{◌↔◌, IsTrue}
use Rattle.mpy_tree.specs.declared.value.Value.{Value}
use Rattle.bit_words.specs.Logic.{Extends}
use Rattle.bit_words.specs.Words.{nat_read}
use Rattle.sym_values.specs.Printed.{slot_read, type_of_kind, value_within}
use Rattle.sym_values.specs.Reading.{spelled, sure}
use Rattle.sym_values.proofs.alike.same_slot.Given as goal

abbrev pub invariant-loop-kind : goal.invariant-loop-kind
invariant-loop-kind g l =
    let reads = g.L.Logic.reads in
    record {
      extends : Extends g.L.Logic.owns reads g.L.Logic.count l.fn.g l.g;
      owned : g.L.Logic.owns l.g l.same;
      none : (vs : List Bool) → l.kind ≤ nat_read reads l.fn.g vs l.a.kind → reads l.g vs l.same ≡ false;
      found : (vs : List Bool) (v w : Value) → nat_read reads l.fn.g vs l.a.kind < l.kind → slot_read l.limits (reads l.fn.g vs) l.a ≡ sure v
          → spelled (value_within l.limits (type_of_kind (nat_read reads l.fn.g vs l.a.kind)) (map (reads l.fn.g vs) l.b.bits)) ≡ sure w
          → IsTrue (reads l.g vs l.same) ↔ (v ≡ w);
    }
