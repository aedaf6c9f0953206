use Rattle.std.proofs.Common.{◌≡◌, Bool, List, map, take}
use Rattle.bit_words.specs.Logic.{OwnsAll}
use Rattle.sym_values.specs.Forms.{forms_of, values_bits}
use Rattle.sym_values.specs.Reading.{map_bits}
use Rattle.sym_paths.specs.Paths.{are_proper}
use Rattle.sym_paths.specs.Places.{Begins}
use Rattle.sym_paths.specs.Slots.{local_forms}
use Rattle.sym_paths.proofs.entry.with_zeros.Given as goal

abbrev pub invariant-loop-i : goal.invariant-loop-i
invariant-loop-i g l = record {
  owned : OwnsAll g.L.Logic.owns l.g (values_bits l.values);
  forms : forms_of l.values ≡ take l.i (local_forms l.slots);
  begins : Begins l.fn.args l.values;
  proper : (vs : List Bool) → are_proper (map (map_bits (g.L.Logic.reads l.g vs)) l.values)
      ≡ are_proper (map (map_bits (g.L.Logic.reads l.g vs)) l.fn.args);
}
