use Rattle.std.proofs.Common.{◌≡◌, ◌≤◌, Bool, false, List, All, drop, length, map, replicate, take}
use Rattle.bit_lists.specs.Lists.{AreWordsIn}
use Rattle.list_values.proofs.literals.padded.Given as goal

abbrev pub invariant-loop : goal.invariant-loop
invariant-loop g l = record {
  made : AreWordsIn g.L.Logic.owns l.g l.width l.padded;
  many : length l.padded ≡ l.counter;
  least : length l.fn.words ≤ length l.padded;
  front : take (length l.fn.words) l.padded ≡ l.fn.words;
  zeros : (vs : List Bool) → All (λ w. map (g.L.Logic.reads l.g vs) w ≡ replicate l.width false) (drop (length l.fn.words) l.padded);
}
