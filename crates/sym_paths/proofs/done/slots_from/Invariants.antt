use Rattle.std.proofs.Common.{◌≡◌, ◌++◌, drop, length, map}
use Rattle.std.specs.List.{All}
use Rattle.sym_paths.proofs.Telling.{slot_word}
use Rattle.sym_paths.proofs.done.slots_from.Given as goal

abbrev pub invariant-loop-i : goal.invariant-loop-i
invariant-loop-i g l = record {
  words : map slot_word l.all ++ drop l.i l.kept ≡ drop 1 l.kept;
  kinds : All (λ s. length s.kind ≡ 2) l.all;
}
