use Rattle.std.proofs.Common.{◌≡◌, ◌&&◌, Bool, true, List, drop, map, take}
use Rattle.mpy_tree.specs.declared.value.Value.{Value}
use Rattle.bit_words.specs.Logic.{Extends, OwnsAll}
use Rattle.sym_values.specs.Forms.{forms_of, values_bits}
use Rattle.sym_values.specs.Reading.{read, sure}
use Rattle.input_bits.specs.Cases.{is_in_case}
use Rattle.input_bits.proofs.cases.input_case.Given as goal

abbrev pub invariant-loop-i : goal.invariant-loop-i
invariant-loop-i g l =
    let logic = g.L.Logic in
    record {
      extends : Extends logic.owns logic.reads logic.count l.fn.g l.g;
      owned : logic.owns l.g l.condition;
      owned_args : OwnsAll logic.owns l.g (values_bits l.args);
      forms : forms_of l.args ≡ take l.i (forms_of l.values);
      condition : (vs : List Bool) (xs : List Value) → map (read (logic.reads l.fn.g vs)) l.values ≡ map sure xs
          → (logic.reads l.g vs l.condition && is_in_case (drop l.i l.splits) l.rest (drop l.i xs)) ≡ is_in_case l.splits l.number xs;
      args : (vs : List Bool) → logic.reads l.g vs l.condition ≡ true
          → map (read (logic.reads l.g vs)) l.args ≡ take l.i (map (read (logic.reads l.fn.g vs)) l.values);
    }
