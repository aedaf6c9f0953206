use Rattle.std.proofs.Common.{◌≡◌, ◌<◌, ℕ, Bool, List, false, length, map, get_or}
use Rattle.std.specs.Prelude.{◌&&◌, ◌||◌}
use Rattle.bit_words.specs.Logic.{Extends, OwnsAll}
use Rattle.bit_lists.proofs.choices.overlaid.Given as goal

abbrev pub invariant-loop-i : goal.invariant-loop-i
invariant-loop-i g l =
    let reads = g.L.Logic.reads in
    record {
      extends : Extends g.L.Logic.owns reads g.L.Logic.count l.fn.g l.g;
      owned : OwnsAll g.L.Logic.owns l.g l.overlaid;
      many : length l.overlaid ≡ l.i;
      value : (vs : List Bool) (k : ℕ) → k < l.i → get_or (map (reads l.g vs) l.overlaid) k false
          ≡ (get_or (map (reads l.fn.g vs) l.under) k false || (reads l.fn.g vs l.test && get_or (map (reads l.fn.g vs) l.word) k false));
    }
