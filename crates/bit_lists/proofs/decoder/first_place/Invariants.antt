use Rattle.std.proofs.Common.{◌≡◌, ◌<◌, ℕ, Bool, List, false, length, map, get_or, eqb}
use Rattle.bit_words.specs.Logic.{OwnsAll}
use Rattle.bit_lists.proofs.decoder.first_place.Given as goal

abbrev pub invariant-loop-j : goal.invariant-loop-j
invariant-loop-j g l = record {
  owned : OwnsAll g.L.Logic.owns l.g l.places;
  many : length l.places ≡ l.j;
  value : (vs : List Bool) (k : ℕ) → k < l.j → get_or (map (g.L.Logic.reads l.g vs) l.places) k false ≡ eqb k 0;
}
