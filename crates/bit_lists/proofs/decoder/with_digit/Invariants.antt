use Rattle.std.proofs.Common.{◌≡◌, ◌<◌, ◌+◌, ◌-◌, ◌/◌, ℕ, Bool, List, false, length, map, get_or, eqb}
use Rattle.bit_words.specs.Logic.{Extends, OwnsAll}
use Rattle.bit_words.specs.Words.{bit_value}
use Rattle.bit_lists.specs.Decoders.{Decodes}
use Rattle.bit_lists.proofs.decoder.with_digit.Given as goal

abbrev pub invariant-loop-j : goal.invariant-loop-j
invariant-loop-j g l =
    let reads = g.L.Logic.reads in
    record {
      extends : Extends g.L.Logic.owns reads g.L.Logic.count l.fn.g l.g;
      owned : OwnsAll g.L.Logic.owns l.g l.places;
      many : length l.places ≡ l.j;
      value : (vs : List Bool) (n : ℕ) → Decodes (l.count - l.count / 2) n (map (reads l.fn.g vs) l.halves) → bit_value (reads l.fn.g vs l.digit) + (n + n) < l.count
          → (k : ℕ) → k < l.j → get_or (map (reads l.g vs) l.places) k false ≡ eqb k (bit_value (reads l.fn.g vs l.digit) + (n + n));
    }
