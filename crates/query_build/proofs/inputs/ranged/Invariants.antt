use Rattle.std.proofs.Common.{◌≡◌, ◌&&◌, Bool, true, List, drop, map, take}
use Rattle.bit_words.specs.Logic.{Extends, OwnsAll}
use Rattle.sym_values.specs.Forms.{forms_of, values_bits}
use Rattle.sym_values.specs.Reading.{read}
use Rattle.query_build.specs.Inputs.{are_right}
use Rattle.query_build.proofs.inputs.ranged.Given as goal

-- all are right where those so far are, and those that are left
abbrev pub invariant-loop-i : goal.invariant-loop-i
invariant-loop-i g l =
    let logic = g.L.Logic in
    let params = l.fn.bounds.params in
    record {
      extends : Extends logic.owns logic.reads logic.count l.fn.g l.g;
      owned : logic.owns l.g l.within;
      owned_args : OwnsAll logic.owns l.g (values_bits l.args);
      forms : forms_of l.args ≡ take l.i (forms_of l.values);
      within : (vs : List Bool)
          → (logic.reads l.g vs l.within
          && are_right (drop l.i params) (drop l.i (map (read (logic.reads l.fn.g vs)) l.values)))
          ≡ are_right params (map (read (logic.reads l.fn.g vs)) l.values);
      same : (vs : List Bool) → logic.reads l.g vs l.within ≡ true
          → map (read (logic.reads l.g vs)) l.args
          ≡ take l.i (map (read (logic.reads l.fn.g vs)) l.values);
    }
