use Rattle.std.proofs.Common.{◌≡◌, Bool, false, List, ◌∷◌, map, replicate}
use Rattle.bit_words.specs.Logic.{OwnsAll}
use Rattle.sym_values.specs.declared.value.SymValue.{SymValue}
use Rattle.sym_values.specs.declared.value.SymValue.TheVariants as sym
use Rattle.sym_values.specs.Forms.{IntForm, forms_of, values_bits}
use Rattle.sym_values.specs.Reading.{map_bits}
use Rattle.sym_paths.proofs.printed.nothing_printed.Given as goal

abbrev pub invariant-loop : goal.invariant-loop
invariant-loop g l = record {
  owned : OwnsAll g.L.Logic.owns l.g (values_bits l.kept);
  forms : forms_of l.kept ≡ IntForm 5 ∷ replicate l.counter (IntForm l.width);
  value : (vs : List Bool) → (rest : List (SymValue Bool))
      × (map (map_bits (g.L.Logic.reads l.g vs)) l.kept ≡ sym.Int (replicate 5 false) ∷ rest);
}
