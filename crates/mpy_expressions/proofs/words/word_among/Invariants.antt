use Rattle.std.proofs.Common.{◌≡◌, map, drop}
use Rattle.mpy_expressions.specs.Terminals.{word_among}
use Rattle.mpy_expressions.proofs.words.word_among.Given as goal

-- the word is among those that are left
abbrev pub invariant-loop-text : goal.invariant-loop-text
invariant-loop-text l = word_among (map (λ e. (e.0.now, e.1)) l.words) l.bytes ≡ word_among (map (λ e. (e.0.now, e.1)) (drop l.text-index l.words)) l.bytes
