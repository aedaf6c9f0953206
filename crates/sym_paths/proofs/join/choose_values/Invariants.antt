use Rattle.std.proofs.Common.{◌≡◌, Bool, List, map, take, cond}
use Rattle.bit_words.specs.Logic.{Extends, OwnsAll}
use Rattle.sym_values.specs.Forms.{forms_of, values_bits}
use Rattle.sym_values.specs.Reading.{map_bits}
use Rattle.sym_paths.proofs.join.choose_values.Given as goal

abbrev pub invariant-loop-i : goal.invariant-loop-i
invariant-loop-i g l =
    let reads = g.L.Logic.reads in
    record {
      extends : Extends g.L.Logic.owns reads g.L.Logic.count l.fn.g l.g;
      owned : OwnsAll g.L.Logic.owns l.g (values_bits l.chosen);
      forms : forms_of l.chosen ≡ forms_of (take l.i l.yes);
      value : (vs : List Bool) → map (map_bits (reads l.g vs)) l.chosen
          ≡ cond (reads l.fn.g vs l.test) (map (map_bits (reads l.fn.g vs)) (take l.i l.yes))
          (map (map_bits (reads l.fn.g vs)) (take l.i l.no));
    }
