use Rattle.std.proofs.Common.{◌≡◌, take}
use Rattle.input_bits.proofs.cases.first_words.Given as goal

abbrev pub invariant-loop-j : goal.invariant-loop-j
invariant-loop-j g l = l.words ≡ take l.j l.items
