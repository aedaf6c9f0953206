use Rattle.std.proofs.Common.{◌≡◌, Bool, List, map, drop, set, take}
use Rattle.bit_words.specs.Logic.{Extends, OwnsAll}
use Rattle.bit_words.specs.Words.{nat_of}
use Rattle.sym_values.specs.Forms.{forms_of, values_bits}
use Rattle.sym_values.specs.Reading.{map_bits}
use Rattle.sym_paths.proofs.printed.put_word.Given as goal

-- the words so far are those of the whole in which one is put
abbrev pub invariant-loop-i : goal.invariant-loop-i
invariant-loop-i g l =
    let reads = g.L.Logic.reads in
    record {
      extends : Extends g.L.Logic.owns reads g.L.Logic.count l.fn.g l.g;
      owned : OwnsAll g.L.Logic.owns l.g (values_bits l.words);
      forms : forms_of l.words ≡ take l.i (drop 1 (forms_of l.kept));
      value : (vs : List Bool) → map (map_bits (reads l.g vs)) l.words
          ≡ take l.i (set (drop 1 (map (map_bits (reads l.fn.g vs)) l.kept))
          (nat_of (map (reads l.fn.g vs) l.number)) (map_bits (reads l.fn.g vs) l.word));
    }
