use Rattle.std.proofs.Common.{◌≡◌, ◌-◌, ◌^◌, Bool, List, length, map, drop}
use Rattle.bit_words.specs.Logic.{Extends, OwnsAll}
use Rattle.bit_words.specs.Words.{nat_of, IsUnsigned}
use Rattle.bit_words.proofs.power.unsigned_power.Given as goal

-- the power by the highest digits of the exponent
abbrev pub invariant-loop-k : goal.invariant-loop-k
invariant-loop-k g l =
    let owns = g.L.Logic.owns in
    let reads = g.L.Logic.reads in
    record {
      extends : Extends owns reads g.L.Logic.count l.fn.g l.g;
      width : length l.power ≡ length l.a;
      owned : OwnsAll owns l.g l.power;
      owned_over : owns l.g l.over;
      value : (vs : List Bool) → IsUnsigned (length l.a) (nat_of (map (reads l.fn.g vs) l.a) ^ nat_of (drop (l.digits - l.k) (map (reads l.fn.g vs) l.b))) (nat_of (map (reads l.g vs) l.power)) (reads l.g vs l.over);
    }
