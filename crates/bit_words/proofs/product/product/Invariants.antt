use Rattle.std.proofs.Common.{◌≡◌, ◌-◌, ◌*◌, Bool, List, length, map, take, drop, ltb}
use Rattle.bit_words.specs.Logic.{Extends, OwnsAll}
use Rattle.bit_words.specs.Words.{nat_of, IsUnsigned}
use Rattle.bit_words.proofs.product.product.Given as goal

-- the product of the highest digits of the second factor
abbrev pub invariant-loop-k : goal.invariant-loop-k
invariant-loop-k g l =
    let owns = g.L.Logic.owns in
    let reads = g.L.Logic.reads in
    record {
      extends : Extends owns reads g.L.Logic.count l.fn.g l.g;
      width : length l.higher.number ≡ l.k;
      owned : OwnsAll owns l.g l.higher.number;
      owned_over : owns l.g l.higher.over;
      owned_some : owns l.g l.higher.some;
      some : (vs : List Bool) → reads l.g vs l.higher.some ≡ ltb 0 (nat_of (drop (l.width - l.k) (map (reads l.fn.g vs) l.b)));
      value : (vs : List Bool) → IsUnsigned l.k (nat_of (map (reads l.fn.g vs) (take l.k l.a)) * nat_of (drop (l.width - l.k) (map (reads l.fn.g vs) l.b))) (nat_of (map (reads l.g vs) l.higher.number)) (reads l.g vs l.higher.over);
    }
