use Rattle.std.proofs.Common.{◌≡◌, ◌-◌, ◌<◌, Bool, List, length, map, drop}
use Rattle.std.specs.Prelude.{nat_lt}
use Rattle.bit_words.specs.Logic.{Extends, OwnsAll}
use Rattle.bit_words.specs.Words.{nat_of}
use Rattle.bit_words.specs.Operations.{IsDivided}
use Rattle.bit_words.proofs.quotient.divide.Given as goal

-- the highest digits are divided
abbrev pub invariant-loop-k : goal.invariant-loop-k
invariant-loop-k g l =
    let owns = g.L.Logic.owns in
    let reads = g.L.Logic.reads in
    record {
      extends : Extends owns reads g.L.Logic.count l.fn.g l.g;
      width : length l.quotient ≡ l.k;
      width_rest : length l.rest ≡ l.width;
      owned : OwnsAll owns l.g l.quotient;
      owned_rest : OwnsAll owns l.g l.rest;
      owned_some : owns l.g l.some;
      some : (vs : List Bool) → reads l.g vs l.some ≡ nat_lt 0 (nat_of (map (reads l.fn.g vs) l.b));
      none : (vs : List Bool) → nat_of (map (reads l.fn.g vs) l.b) ≡ 0 → nat_of (map (reads l.g vs) l.quotient) ≡ 0;
      value : (vs : List Bool) → 0 < nat_of (map (reads l.fn.g vs) l.b) → IsDivided (nat_of (drop (l.width - l.k) (map (reads l.fn.g vs) l.a))) (nat_of (map (reads l.fn.g vs) l.b)) (nat_of (map (reads l.g vs) l.quotient)) (nat_of (map (reads l.g vs) l.rest));
    }
