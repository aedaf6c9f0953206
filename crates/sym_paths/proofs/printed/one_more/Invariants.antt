use Rattle.std.proofs.Common.{◌≡◌, ◌+◌, ◌*◌, ◌^◌, Bool, List, length, map, take}
use Rattle.bit_words.specs.Logic.{Extends, OwnsAll}
use Rattle.bit_words.specs.Words.{bit_value, nat_of}
use Rattle.sym_paths.proofs.printed.one_more.Given as goal

-- the digits so far and the carry are one more than the digits that were taken
abbrev pub invariant-loop-i : goal.invariant-loop-i
invariant-loop-i g l =
    let owns = g.L.Logic.owns in
    let reads = g.L.Logic.reads in
    record {
      extends : Extends owns reads g.L.Logic.count l.fn.g l.g;
      width : length l.sum ≡ l.i;
      owned : OwnsAll owns l.g l.sum;
      carried : owns l.g l.carry;
      total : (vs : List Bool)
          → nat_of (map (reads l.g vs) l.sum) + 2 ^ l.i * bit_value (reads l.g vs l.carry)
          ≡ nat_of (map (reads l.fn.g vs) (take l.i l.number)) + 1;
    }
